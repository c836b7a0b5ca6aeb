-- A message and the parts of its layout: each gives the other back. Assumes nothing.
use Prim.Native.Nat.{ℕ}
use mathlib.Core.List.{List, [], ◌∷◌}
use mathlib.Core.Bool.{Bool, true, false, cond}
use mathlib.Core.Path.{◌≡◌, refl, sym}
use native.Mathlib.Omega.{arith}
use borrow.Author.Tests.{eqb-true, ne_eqb, eqb-false}
use lib.Dec.{eqb}
use mir.Syntax.{w64}
use mir.Val.{to_z, of_z, SFits}
use mir.ValLaws.{of_z-to_z, to_z-of_z}
use Rattle.wire.specs.Cursors.{Cursor}
use Rattle.std.specs.Prelude.{Ok}
use Rattle.wire.specs.Numbers.{most64}
use Rattle.wire.specs.Fields.{number_field, letter_field, member, position_of}
use Rattle.wire.proofs.Fields.{value_le}
use Rattle.wire.proofs.Cases.{letter_in}
use Rattle.message.specs.declared.OldTuple.{OldTuple}
use Rattle.message.specs.declared.OldTuple.TheVariants.{Nothing, Key, Full}
use Rattle.message.specs.declared.Message.{Message}
use Rattle.message.specs.declared.Message.TheVariants as a
use Rattle.message.specs.Layout.{Optional, optional, read_fields, tuple_end}
use Rattle.message.specs.Kinds.{Kind, begin, commit, origin, relation, type, insert, update, delete, truncate, message, stream_start, stream_stop, stream_commit, stream_abort, layout, key_or_old}
use Rattle.message.specs.Messages.{message_of, old_tuple}
use Rattle.message.specs.Encode.{kind_of_message, parts_of, old_numbers}

-- WHAT WAS READ

pub kind_back : (k : Kind) (v : List (List ℕ)) → kind_of_message (message_of k v) ≡ k
kind_back begin v = refl
kind_back commit v = refl
kind_back origin v = refl
kind_back relation v = refl
kind_back type v = refl
kind_back insert v = refl
kind_back update v = refl
kind_back delete v = refl
kind_back truncate v = refl
kind_back message v = refl
kind_back stream_start v = refl
kind_back stream_stop v = refl
kind_back stream_commit v = refl
kind_back stream_abort v = refl

-- the bits of a time that was read are its number
time_back : (xs : List ℕ) (c : Cursor) → of_z w64 (to_z w64 (number_field 8 0 most64 4 xs c).value) ≡ (number_field 8 0 most64 4 xs c).value
time_back xs c = of_z-to_z w64 _ (record { fits = let h = value_le 8 0 most64 4 xs c in omega arith })

-- K, O or nothing
letters_back : (v start : ℕ) → member key_or_old v ≡ true → old_numbers (old_tuple v start) ≡ v ∷ start ∷ []
unfolding member
letters_back v start m = go (eqb v 0x4B) refl (eqb v 0x4F) refl
  where
    go : (s : Bool) → eqb v 0x4B ≡ s → (t : Bool) → eqb v 0x4F ≡ t → old_numbers (cond s (Key start) (cond t (Full start) Nothing)) ≡ v ∷ start ∷ []
    go true e t f = rw (eqb-true v 0x4B e)
    go false e true f = rw (eqb-true v 0x4F f)
    go false e false f =
        let n = rw (ne_eqb 0x4B v (λ q. eqb-false v 0x4B e (sym q)), ne_eqb 0x4F v (λ q. eqb-false v 0x4F f (sym q))) at m in
        let z : ◌≡◌ {A = ℕ} 0 1 = cc in absurd (omega arith)

old_back : (xs : List ℕ) (c : Cursor) → (let o = optional key_or_old xs c in old_numbers (old_tuple o.letter o.start) ≡ o.letter ∷ o.start ∷ [])
unfolding optional
old_back xs c = go (letter_field key_or_old xs c).value (letter_field key_or_old xs c).next (letter_in key_or_old xs c)
  where
    go :
        (l : ℕ) (d : Cursor) → ((l ≡ 0 → ⊥) → member key_or_old l ≡ true)
        → (let o = cond {A = Optional} (eqb l 0) (record { letter = 0; start = 0; next = c }) (record { letter = l; start = position_of d; next = tuple_end xs d }) in
        old_numbers (old_tuple o.letter o.start) ≡ o.letter ∷ o.start ∷ [])
    go l d h = test (eqb l 0) refl
      where
        test :
            (t : Bool) → eqb l 0 ≡ t
            → (let o = cond {A = Optional} t (record { letter = 0; start = 0; next = c }) (record { letter = l; start = position_of d; next = tuple_end xs d }) in
            old_numbers (old_tuple o.letter o.start) ≡ o.letter ∷ o.start ∷ [])
        test true e = refl
        test false e = letters_back l (position_of d) (h (eqb-false l 0 e))

pub parts_back : (k : Kind) (b : Bool) (xs : List ℕ) → (let v = (read_fields b (layout k) xs (Ok 1)).parts in parts_of (message_of k v) ≡ v)
parts_back begin b xs = rw time_back
parts_back commit b xs = rw time_back
parts_back origin b xs = refl
parts_back relation b xs = refl
parts_back type b xs = refl
parts_back insert b xs = refl
parts_back update b xs = rw old_back
parts_back delete b xs = refl
parts_back truncate b xs = refl
parts_back message b xs = refl
parts_back stream_start b xs = refl
parts_back stream_stop b xs = refl
parts_back stream_commit b xs = rw time_back
parts_back stream_abort b xs = refl

-- WHAT A PROGRAM HOLDS

-- a time has 64 bits
abbrev pub TimeFits : Message → Type 0
TimeFits (a.Begin m) = SFits w64 m.time
TimeFits (a.Commit m) = SFits w64 m.time
TimeFits (a.Origin m) = Unit {0}
TimeFits (a.Relation m) = Unit {0}
TimeFits (a.«Type» m) = Unit {0}
TimeFits (a.Insert m) = Unit {0}
TimeFits (a.Update m) = Unit {0}
TimeFits (a.Delete m) = Unit {0}
TimeFits (a.Truncate m) = Unit {0}
TimeFits (a.Message m) = Unit {0}
TimeFits (a.StreamStart xid first) = Unit {0}
TimeFits a.StreamStop = Unit {0}
TimeFits (a.StreamCommit m) = SFits w64 m.time
TimeFits (a.StreamAbort xid sub) = Unit {0}

pub message_back : (m : Message) → TimeFits m → message_of (kind_of_message m) (parts_of m) ≡ m
message_back (a.Begin m) f = rw (to_z-of_z w64 m.time f)
message_back (a.Commit m) f = rw (to_z-of_z w64 m.time f)
message_back (a.Origin m) f = refl
message_back (a.Relation m) f = refl
message_back (a.«Type» m) f = refl
message_back (a.Insert m) f = refl
message_back (a.Update m) f = go m.old
  where
    go : (o : OldTuple) → message_of update (parts_of (a.Update (record { xid = m.xid; relation = m.relation; old = o; tuple = m.tuple }))) ≡ a.Update (record { xid = m.xid; relation = m.relation; old = o; tuple = m.tuple })
    go Nothing = refl
    go (Key start) = refl
    go (Full start) = refl
message_back (a.Delete m) f = refl
message_back (a.Truncate m) f = refl
message_back (a.Message m) f = refl
message_back (a.StreamStart xid first) f = refl
message_back a.StreamStop f = refl
message_back (a.StreamCommit m) f = rw (to_z-of_z w64 m.time f)
message_back (a.StreamAbort xid sub) f = refl
