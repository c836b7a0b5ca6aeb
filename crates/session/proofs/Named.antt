-- A message that was read names no OID 0. Assumes nothing.
use Prim.Native.Nat.{ℕ, zero, suc}
use mathlib.Core.List.{List, [], ◌∷◌}
use mathlib.Core.Bool.{Bool}
use mathlib.Core.Path.{◌≡◌}
use Rattle.wire.specs.Cursors.{Cursor}
use Rattle.std.specs.Prelude.{Ok}
use Rattle.wire.specs.Fields.{position_of}
use Rattle.message.specs.declared.Version.{Version}
use Rattle.message.specs.declared.Message.{Message}
use Rattle.message.specs.Layout.{id, number_of, one, tuple, optional_tuple, text, letter, groups_end, read_fields}
use Rattle.message.specs.declared.kinds.Kind.{Kind}
use Rattle.message.specs.Kinds.{begin, commit, origin, relation, type, insert, update, delete, truncate, message, stream_start, stream_stop, stream_commit, stream_abort, layout, identity, columns, new, key_or_old}
use Rattle.message.specs.Messages.{message_of, read_message}
use Rattle.message.proofs.Accepted.{reached, accepted}
use Rattle.message.proofs.Local.{groups_local}
use Rattle.session.specs.Events.{Event, Begin, Commit, Origin, Relation, Change, Truncate, Neutral, Logical, StreamStart, StreamStop, StreamCommit, StreamAbort, oids_at, event_of}
use Rattle.session.proofs.Formed.{NonZero, id_then}

abbrev pub AllNonZero : List ℕ → Type 0
AllNonZero [] = Unit {0}
AllNonZero (o ∷ os) = NonZero o × AllNonZero os

abbrev pub Named : Event → Type 0
Named (Begin l x) = Unit {0}
Named (Commit l) = Unit {0}
Named Origin = Unit {0}
Named (Relation o i c) = NonZero o
Named (Change x o ts) = NonZero o
Named (Truncate x os) = AllNonZero os
Named Neutral = Unit {0}
Named (Logical v) = Unit {0}
Named (StreamStart x first) = Unit {0}
Named StreamStop = Unit {0}
Named (StreamCommit x) = Unit {0}
Named (StreamAbort x sub) = Unit {0}

module _ (b : Bool) (xs : List ℕ) where
  oids_then : (n : ℕ) (c : Cursor) (e : ℕ) → groups_end (id ∷ []) xs n c ≡ Ok e → AllNonZero (oids_at n xs c)
  unfolding groups_end
  oids_then zero c e q = tt
  oids_then (suc n) c e q =
      let d = (number_of id xs c).next in
      let r = reached (groups_end (id ∷ []) xs n) ((groups_local (id ∷ []) n).stays xs) d q in
      ((id_then b xs [] c r.0 r.1).0, oids_then n d e q)

  relations_then : (n : ℕ) (c : Cursor) (e : ℕ) → groups_end (id ∷ []) xs n c ≡ Ok e → AllNonZero (oids_at n xs (Ok (position_of c)))
  relations_then n c e q =
      let r = reached (groups_end (id ∷ []) xs n) ((groups_local (id ∷ []) n).stays xs) c q in
      rw r.1 (oids_then n (Ok r.0) e (rw r.1 at q))

  kind-named : (k : Kind) (e : ℕ) → (read_fields b (layout k) xs (Ok 1)).next ≡ Ok e → Named (event_of (message_of k (read_fields b (layout k) xs (Ok 1)).parts) xs)
  kind-named begin e q = tt
  kind-named commit e q = tt
  kind-named origin e q = tt
  kind-named relation e q = (id_then b xs (one text ∷ one text ∷ identity ∷ columns ∷ []) _ e q).0
  kind-named type e q = tt
  kind-named insert e q = (id_then b xs (new ∷ tuple ∷ []) _ e q).0
  kind-named update e q = (id_then b xs (optional_tuple key_or_old ∷ new ∷ tuple ∷ []) _ e q).0
  kind-named delete e q = (id_then b xs (one (letter key_or_old) ∷ tuple ∷ []) _ e q).0
  kind-named truncate e q = relations_then _ _ e q
  kind-named message e q = tt
  kind-named stream_start e q = tt
  kind-named stream_stop e q = tt
  kind-named stream_commit e q = tt
  kind-named stream_abort e q = tt

  pub read_named_lem : (v : Version) (m : Message) → read_message v b xs ≡ Ok m → Named (event_of m xs)
  read_named_lem v m q = let a = accepted v b xs m q in rw a.message (kind-named a.kind _ a.ends)
