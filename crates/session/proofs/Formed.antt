-- A message that was read is well formed: no xid that a rule names is 0, and the OID of an announcement and the xid of a block are not 0 and numbers of 32 bits;
-- so is the xid that a change carries, and the message's length. Assumes nothing.
use Prim.Native.Nat.{ℕ, ◌+◌, ◌≤◌}
use mathlib.Core.List.{List, [], ◌∷◌}
use mathlib.Core.Bool.{Bool, true, false, cond, ◌&&◌}
use mathlib.Core.Path.{◌≡◌, refl}
use native.Mathlib.Omega.{arith}
use borrow.Author.Tests.{leb-true}
use lib.Dec.{leb}
use lib.ListN.{length}
use Rattle.std.specs.Prelude.{Option, Some, None}
use Rattle.wire.specs.Cursors.{Cursor, refuse}
use Rattle.std.specs.Prelude.{Ok, Err}
use Rattle.wire.specs.Numbers.{word_at, most32}
use Rattle.wire.specs.Fields.{number_field, judged, no_number}
use Rattle.wire.proofs.Fields.{value_le}
use Rattle.message.specs.declared.Version.{Version}
use Rattle.message.specs.declared.Message.{Message}
use Rattle.message.specs.Layout.{Part, id, number_of, one, text, xid_field, read_fields}
use Rattle.message.specs.declared.kinds.Kind.{Kind}
use Rattle.message.specs.Kinds.{begin, commit, origin, relation, type, insert, update, delete, truncate, message, stream_start, stream_stop, stream_commit, stream_abort, layout, identity, columns, lsn, time, flags, xid}
use Rattle.message.specs.Messages.{message_of, read_message, largest}
use Rattle.message.proofs.Accepted.{reached, accepted}
use Rattle.message.proofs.Local.{fields_stay}
use Rattle.catalog.specs.Table.{Small}
use Rattle.session.specs.Events.{Event, Begin, Commit, Origin, Relation, Change, Truncate, Neutral, Logical, StreamStart, StreamStop, StreamCommit, StreamAbort, event_of}

abbrev pub NonZero : ℕ → Type 0
NonZero x = x ≡ 0 → ⊥

-- an OID or xid: not 0, of 32 bits
abbrev pub Id : ℕ → Type 0
Id o = NonZero o × Small o

abbrev pub Formed : Event → Type 0
Formed (Begin l x) = NonZero x
Formed (Commit l) = Unit {0}
Formed Origin = Unit {0}
Formed (Relation o i c) = Id o
Formed (Change x o ts) = Small x
Formed (Truncate x os) = Small x
Formed Neutral = Unit {0}
Formed (Logical v) = Unit {0}
Formed (StreamStart x first) = Id x
Formed StreamStop = Unit {0}
Formed (StreamCommit x) = NonZero x
Formed (StreamAbort x sub) = NonZero x

-- a number that was read is one that its field allows
number-within : (w low high n : ℕ) (xs : List ℕ) (c : Cursor) {e : ℕ} → (number_field w low high n xs c).next ≡ Ok e
    → (low ≤ (number_field w low high n xs c).value) × ((number_field w low high n xs c).value ≤ high)
unfolding number_field
number-within w low high n xs (Err r) q = let z : ◌≡◌ {A = ℕ} 0 1 = cc in absurd (omega arith)
number-within w low high n xs (Ok at) {e} q = word (word_at w xs at) q
  where
    test : (a b : Bool) (v : ℕ) → leb low v ≡ a → leb v high ≡ b → (cond (a && b) (record { value = v; next = Ok (at + w) }) (no_number (refuse n at))).next ≡ Ok e
        → (low ≤ (cond (a && b) (record { value = v; next = Ok (at + w) }) (no_number (refuse n at))).value) × ((cond (a && b) (record { value = v; next = Ok (at + w) }) (no_number (refuse n at))).value ≤ high)
    test true true v k m q = (leb-true low v k, leb-true v high m)
    test true false v k m q = let z : ◌≡◌ {A = ℕ} 0 1 = cc in absurd (omega arith)
    test false b v k m q = let z : ◌≡◌ {A = ℕ} 0 1 = cc in absurd (omega arith)

    word : (r : Option ℕ) → (judged w low high n at r).next ≡ Ok e → (low ≤ (judged w low high n at r).value) × ((judged w low high n at r).value ≤ high)
    word None q = let z : ◌≡◌ {A = ℕ} 0 1 = cc in absurd (omega arith)
    word (Some v) q = test (leb low v) (leb v high) v refl refl q

module _ (b : Bool) (xs : List ℕ) where
  -- an id that reading got past
  pub id_then : (rest : List Part) (c : Cursor) (e : ℕ) → (read_fields b rest xs (number_of id xs c).next).next ≡ Ok e
      → NonZero (number_of id xs c).value × Id (number_of id xs c).value
  id_then rest c e q =
      let r = reached (λ (d : Cursor). (read_fields b rest xs d).next) (fields_stay b xs rest) (number_of id xs c).next q in
      let k = number-within 4 1 most32 4 xs c r.1 in
      ((λ z. omega (arith, k.0, z)), ((λ z. omega (arith, k.0, z)), omega (arith, k.1)))

  -- the xid that a change carries in a block, else 0
  xid-fits : (v : Bool) (c : Cursor) → Small (xid_field v xs c).value
  unfolding xid_field
  xid-fits true c = omega (arith, value_le 4 1 most32 4 xs c)
  xid-fits false c = omega arith

  kind_formed : (k : Kind) (e : ℕ) → (read_fields b (layout k) xs (Ok 1)).next ≡ Ok e → Formed (event_of (message_of k (read_fields b (layout k) xs (Ok 1)).parts) xs)
  kind_formed begin e q = (id_then [] _ e q).0
  kind_formed commit e q = tt
  kind_formed origin e q = tt
  kind_formed relation e q = (id_then (one text ∷ one text ∷ identity ∷ columns ∷ []) _ e q).1
  kind_formed type e q = tt
  kind_formed insert e q = xid-fits b (Ok 1)
  kind_formed update e q = xid-fits b (Ok 1)
  kind_formed delete e q = xid-fits b (Ok 1)
  kind_formed truncate e q = xid-fits b (Ok 1)
  kind_formed message e q = tt
  kind_formed stream_start e q = (id_then (flags 1 ∷ []) _ e q).1
  kind_formed stream_stop e q = tt
  kind_formed stream_commit e q = (id_then (flags 0 ∷ lsn ∷ lsn ∷ time ∷ []) _ e q).0
  kind_formed stream_abort e q = (id_then (xid ∷ []) _ e q).0

  pub read_formed : (v : Version) (m : Message) → read_message v b xs ≡ Ok m → Formed (event_of m xs)
  read_formed v m q = let a = accepted v b xs m q in rw a.message (kind_formed a.kind _ a.ends)

  pub read_short : (v : Version) (m : Message) → read_message v b xs ≡ Ok m → Small (length xs)
  read_short v m q = let h : length xs ≤ largest = (accepted v b xs m q).short in omega arith
