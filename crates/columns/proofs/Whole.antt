-- What a message that was read has to step through lies there whole. Assumes nothing.
use Prim.Native.Nat.{ℕ}
use mathlib.Core.List.{List, [], ◌∷◌}
use mathlib.Core.Bool.{Bool, true, false, cond}
use mathlib.Core.Path.{◌≡◌, ap, sym, ◌∙◌}
use native.Mathlib.Omega.{arith}
use lib.Dec.{eqb}
use Rattle.wire.specs.Cursors.{Cursor, Taken}
use Rattle.std.specs.Prelude.{Ok, Option, Some, None}
use Rattle.wire.specs.Fields.{letter_field, position_of}
use Rattle.message.specs.declared.OldTuple.TheVariants as old
use Rattle.message.specs.Layout.{id, Field, groups_end, tuple_end, Optional, optional, read_fields}
use Rattle.message.specs.declared.kinds.Kind.{Kind}
use Rattle.message.specs.Kinds.{begin, commit, origin, relation, type, insert, update, delete, truncate, message, stream_start, stream_stop, stream_commit, stream_abort, layout, column_fields, key_or_old}
use Rattle.message.specs.Messages.{message_of, old_tuple}
use Rattle.message.proofs.Accepted.{reached}
use Rattle.message.proofs.Local.{letter_local, groups_local, tuple_local}
use Rattle.columns.specs.declared.Position.{Position}
use Rattle.columns.specs.declared.Sections.{Sections}
use Rattle.columns.specs.Starts.{absent, at, old_offset, with_tuples, sections_of}

module _ (xs : List ℕ) where
  -- a tuple, or groups, that lie there whole
  abbrev pub TupleAt : ℕ → Type 0
  TupleAt start = (e : ℕ) × (tuple_end xs (Ok start) ≡ Ok e)

  abbrev pub GroupsAt : List Field → Position → Type 0
  GroupsAt fs p = (e : ℕ) × (groups_end fs xs p.left (Ok p.offset) ≡ Ok e)

  -- what contents say lies there whole
  pub record Sound (k : Sections) : Type 0 where
    pub old-whole : (start : ℕ) → k.old ≡ Some start → TupleAt start
    pub new-whole : (start : ℕ) → k.new ≡ Some start → TupleAt start
    pub columns-whole : (p : Position) → k.columns ≡ Ok p → GroupsAt column_fields p
    pub oids-whole : (p : Position) → k.oids ≡ Ok p → GroupsAt (id ∷ []) p

  -- what is not there
  no_tuple : (start : ℕ) → None ≡ Some start → TupleAt start
  no_tuple start q = let z : ◌≡◌ {A = ℕ} 0 1 = cc in absurd (omega arith)

  no_groups : (fs : List Field) (p : Position) → absent ≡ Ok p → GroupsAt fs p
  no_groups fs p q = let z : ◌≡◌ {A = ℕ} 0 1 = cc in absurd (omega arith)

  tuples_sound : (o n : Option ℕ) → ((start : ℕ) → o ≡ Some start → TupleAt start) → ((start : ℕ) → n ≡ Some start → TupleAt start) → Sound (with_tuples o n)
  tuples_sound o n f g = record { old-whole = f; new-whole = g; columns-whole = no_groups column_fields; oids-whole = no_groups (id ∷ []) }

  nothing_sound : Sound (with_tuples None None)
  nothing_sound = tuples_sound None None no_tuple no_tuple

  -- a tuple that reading got past lies where reading stood
  tuple_here : (c : Cursor) (e : ℕ) → tuple_end xs c ≡ Ok e → (start : ℕ) → Some (position_of c) ≡ Some start → TupleAt start
  tuple_here c e q start p =
      let r = reached (tuple_end xs) (tuple_local.stays xs) c q in
      let s : position_of c ≡ start = cc in
      let t : r.0 ≡ start = sym (ap position_of r.1) ∙ s in
      (e, rw (r.1, t) at q)

  groups_here : (fs : List Field) (n : ℕ) (c : Cursor) (e : ℕ) → groups_end fs xs n c ≡ Ok e → groups_end fs xs n (Ok (position_of c)) ≡ Ok e
  groups_here fs n c e q = let r = reached (groups_end fs xs n) ((groups_local fs n).stays xs) c q in rw r.1 (rw r.1 at q)

  pub groups-at : (fs : List Field) (n : ℕ) (c : Cursor) (e : ℕ) → groups_end fs xs n c ≡ Ok e → (p : Position) → at (position_of c) n ≡ Ok p → GroupsAt fs p
  groups-at fs n c e q p s =
      let l : n ≡ p.left = cc in
      let o : position_of c ≡ p.offset = cc in
      (e, rw (← l, ← o) (groups_here fs n c e q))

  module _ (e : ℕ) where
    tuple_sound : (c : Cursor) → tuple_end xs c ≡ Ok e → Sound (with_tuples None (Some (position_of c)))
    tuple_sound c q = tuples_sound None (Some (position_of c)) no_tuple (tuple_here c e q)

    delete_sound : (c : Cursor) → tuple_end xs c ≡ Ok e → Sound (with_tuples (Some (position_of c)) None)
    delete_sound c q = tuples_sound (Some (position_of c)) None (tuple_here c e q) no_tuple

    columns_sound : (n : ℕ) (c : Cursor) → groups_end column_fields xs n c ≡ Ok e → Sound (record { old = None; new = None; columns = at (position_of c) n; oids = absent })
    columns_sound n c q = record { old-whole = no_tuple; new-whole = no_tuple; columns-whole = groups-at column_fields n c e q; oids-whole = no_groups (id ∷ []) }

    oids_sound : (n : ℕ) (c : Cursor) → groups_end (id ∷ []) xs n c ≡ Ok e → Sound (record { old = None; new = None; columns = absent; oids = at (position_of c) n })
    oids_sound n c q = record { old-whole = no_tuple; new-whole = no_tuple; columns-whole = no_groups column_fields; oids-whole = groups-at (id ∷ []) n c e q }

  -- an old tuple's letter is K or O where it starts somewhere
  old-start : (l start s : ℕ) → old_offset (old_tuple l start) ≡ Some s → start ≡ s
  old-start l start s = go (eqb l 0x4B) (eqb l 0x4F)
    where
      go : (a b : Bool) → old_offset (cond a (old.Key start) (cond b (old.Full start) old.Nothing)) ≡ Some s → start ≡ s
      go true b q = cc
      go false true q = cc
      go false false q = let z : ◌≡◌ {A = ℕ} 0 1 = cc in absurd (omega arith)

  old_here : (c : Cursor) (e : ℕ) → (optional key_or_old xs c).next ≡ Ok e → (start : ℕ) → old_offset (old_tuple (optional key_or_old xs c).letter (optional key_or_old xs c).start) ≡ Some start → TupleAt start
  unfolding optional
  old_here c e = go (eqb k.value 0)
    where
      k : Taken ℕ
      k = letter_field key_or_old xs c

      o : Bool → Optional
      o t = cond t (record { letter = 0; start = 0; next = c }) (record { letter = k.value; start = position_of k.next; next = tuple_end xs k.next })

      go : (t : Bool) → (o t).next ≡ Ok e → (start : ℕ) → old_offset (old_tuple (o t).letter (o t).start) ≡ Some start → TupleAt start
      go true q start p = no_tuple start p
      go false q start p = tuple_here k.next e q start (ap Some (old-start k.value (position_of k.next) start p))

  update_sound : (c : Cursor) (e : ℕ) → tuple_end xs (letter_field (0x4E ∷ []) xs (optional key_or_old xs c).next).next ≡ Ok e → Sound (with_tuples (old_offset (old_tuple (optional key_or_old xs c).letter (optional key_or_old xs c).start)) (Some (position_of (letter_field (0x4E ∷ []) xs (optional key_or_old xs c).next).next)))
  update_sound c e q =
      let n = (letter_field (0x4E ∷ []) xs (optional key_or_old xs c).next).next in
      let r = reached (tuple_end xs) (tuple_local.stays xs) n q in
      let m = reached (λ (d : Cursor). (letter_field (0x4E ∷ []) xs d).next) ((letter_local (0x4E ∷ [])).stays xs) (optional key_or_old xs c).next r.1 in
      tuples_sound _ _ (old_here c m.0 m.1) (tuple_here n e q)

  pub kind_sound : (b : Bool) (k : Kind) (e : ℕ) → (read_fields b (layout k) xs (Ok 1)).next ≡ Ok e → Sound (sections_of (message_of k (read_fields b (layout k) xs (Ok 1)).parts))
  kind_sound b begin e q = nothing_sound
  kind_sound b commit e q = nothing_sound
  kind_sound b origin e q = nothing_sound
  kind_sound b relation e q = columns_sound e _ _ q
  kind_sound b type e q = nothing_sound
  kind_sound b insert e q = tuple_sound e _ q
  kind_sound b update e q = update_sound _ e q
  kind_sound b delete e q = delete_sound e _ q
  kind_sound b truncate e q = oids_sound e _ _ q
  kind_sound b message e q = nothing_sound
  kind_sound b stream_start e q = nothing_sound
  kind_sound b stream_stop e q = nothing_sound
  kind_sound b stream_commit e q = nothing_sound
  kind_sound b stream_abort e q = nothing_sound
