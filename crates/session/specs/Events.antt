-- To be believed (demand 3). What the session's rules look at in a message: an event.
use Rattle.std.specs.Prelude.{ℕ, zero, suc, List, [], ◌∷◌, Bool, eqb, Ok}
use Rattle.wire.specs.Cursors.{Cursor}
use Rattle.message.specs.declared.OldTuple.{OldTuple}
use Rattle.message.specs.declared.OldTuple.TheVariants as old
use Rattle.message.specs.declared.Message.{Message}
use Rattle.message.specs.declared.Message.TheVariants as m
use Rattle.message.specs.Layout.{id, number_of, column_count}

-- a tuple of a change: its letter (`N` the new row, `K` the key, `O` the whole old row) and how many columns it has
pub data Tuple : Type 0 where
  tuple : (letter count : ℕ) → Tuple

pub data Event : Type 0 where
  -- B: final LSN, xid
  Begin : (lsn xid : ℕ) → Event
  -- C: commit LSN
  Commit : (lsn : ℕ) → Event
  -- O
  Origin : Event
  -- R: relation OID, identity, column count
  Relation : (oid identity count : ℕ) → Event
  -- I, U and D: the xid that it carries (0 where it has none), relation OID, and each tuple
  Change : (xid oid : ℕ) (tuples : List Tuple) → Event
  -- T: the xid that it carries, and the OIDs, in order
  Truncate : (xid : ℕ) (oids : List ℕ) → Event
  -- Y
  Neutral : Event
  -- M: whether it is transactional (flag 1)
  Logical : (transactional : Bool) → Event
  -- S: xid, and whether it is the first
  StreamStart : (xid : ℕ) (first : Bool) → Event
  -- E
  StreamStop : Event
  -- c: xid
  StreamCommit : (xid : ℕ) → Event
  -- A: xid, sub-xid
  StreamAbort : (xid sub : ℕ) → Event

-- the event of a message that was read, whose tuples and OIDs lie in its bytes `xs`

-- a tuple starts with its column count
abbrev pub tuple_at : ℕ → List ℕ → ℕ → Tuple
tuple_at letter xs start = tuple letter (column_count xs (Ok start)).value

-- an Update's old tuple, where it has one, before its other tuples
abbrev pub old_before : OldTuple → List ℕ → List Tuple → List Tuple
old_before old.Nothing xs ts = ts
old_before (old.Key start) xs ts = tuple_at 0x4B xs start ∷ ts
old_before (old.Full start) xs ts = tuple_at 0x4F xs start ∷ ts

-- n OIDs, one after the other
abbrev pub oids_at : ℕ → List ℕ → Cursor → List ℕ
oids_at zero xs c = []
oids_at (suc n) xs c = let f = number_of id xs c in f.value ∷ oids_at n xs f.next

abbrev pub event_of : Message → List ℕ → Event
event_of (m.Begin r) xs = Begin r.final_lsn r.xid
event_of (m.Commit r) xs = Commit r.commit_lsn
event_of (m.Origin r) xs = Origin
event_of (m.Relation r) xs = Relation r.relation r.identity r.count
event_of (m.«Type» r) xs = Neutral
event_of (m.Insert r) xs = Change r.xid r.relation (tuple_at 0x4E xs r.tuple ∷ [])
event_of (m.Update r) xs = Change r.xid r.relation (old_before r.old xs (tuple_at 0x4E xs r.tuple ∷ []))
event_of (m.Delete r) xs = Change r.xid r.relation (tuple_at r.image xs r.tuple ∷ [])
event_of (m.Truncate r) xs = Truncate r.xid (oids_at r.count xs (Ok r.relations))
event_of (m.Message r) xs = Logical (eqb r.flags 1)
event_of (m.StreamStart xid first) xs = StreamStart xid (eqb first 1)
event_of m.StreamStop xs = StreamStop
event_of (m.StreamCommit r) xs = StreamCommit r.xid
event_of (m.StreamAbort xid sub) xs = StreamAbort xid sub
