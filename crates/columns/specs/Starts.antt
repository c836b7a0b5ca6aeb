-- To be believed (stepping). Where stepping starts (document 01, "Looking at a tuple"): the whole message is read first.
use Rattle.std.specs.Prelude.{ℕ, List, Option, Some, None, Result, Ok, Err}
use Rattle.wire.specs.declared.Refusal.{Refusal}
use Rattle.wire.specs.Cursors.{refuse}
use Rattle.columns.specs.declared.Position.{Position}
use Rattle.wire.specs.Fields.{position_of}
use Rattle.message.specs.declared.OldTuple.{OldTuple}
use Rattle.message.specs.declared.OldTuple.TheVariants as old
use Rattle.message.specs.declared.Message.{Message}
use Rattle.message.specs.declared.Message.TheVariants as m
use Rattle.message.specs.Messages.{Read}
use Rattle.message.specs.Layout.{column_count}
use Rattle.columns.specs.declared.Which.{Which}
use Rattle.columns.specs.declared.Which.TheVariants.{Old, New}
use Rattle.columns.specs.declared.Sections.{Sections}

-- where stepping starts, or the refusal
abbrev pub Started : Type 0
Started = Result Position Refusal

-- a tuple that the message lacks, or columns or OIDs asked of another kind: 4 at 0
abbrev pub absent : Started
absent = refuse 4 0

abbrev pub at : ℕ → ℕ → Started
at offset left = Ok (record { offset = offset; left = left })

abbrev pub old_offset : OldTuple → Option ℕ
old_offset old.Nothing = None
old_offset (old.Key start) = Some start
old_offset (old.Full start) = Some start

abbrev pub with_tuples : Option ℕ → Option ℕ → Sections
with_tuples o n = record { old = o; new = n; columns = absent; oids = absent }

-- what each kind has: where its old and new tuple start, its columns and its OIDs. A Delete's tuple is its old one
abbrev pub sections_of : Message → Sections
sections_of (m.Begin r) = with_tuples None None
sections_of (m.Commit r) = with_tuples None None
sections_of (m.Origin r) = with_tuples None None
sections_of (m.Relation r) = record { old = None; new = None; columns = at r.columns r.count; oids = absent }
sections_of (m.«Type» r) = with_tuples None None
sections_of (m.Insert r) = with_tuples None (Some r.tuple)
sections_of (m.Update r) = with_tuples (old_offset r.old) (Some r.tuple)
sections_of (m.Delete r) = with_tuples (Some r.tuple) None
sections_of (m.Truncate r) = record { old = None; new = None; columns = absent; oids = at r.relations r.count }
sections_of (m.Message r) = with_tuples None None
sections_of (m.StreamStart xid first) = with_tuples None None
sections_of m.StreamStop = with_tuples None None
sections_of (m.StreamCommit r) = with_tuples None None
sections_of (m.StreamAbort xid sub) = with_tuples None None

-- at a tuple's first column: behind its count, with as many left as it counts
unfoldable pub tuple_position : List ℕ → Option ℕ → Started
tuple_position xs None = absent
tuple_position xs (Some start) = let n = column_count xs (Ok start) in at (position_of n.next) n.value

abbrev pub tuple_of : Which → Sections → Option ℕ
tuple_of Old k = k.old
tuple_of New k = k.new

-- the message's own refusal comes first
abbrev pub tuple_start : Which → List ℕ → Read → Started
tuple_start w xs (Err r) = Err r
tuple_start w xs (Ok m) = tuple_position xs (tuple_of w (sections_of m))

abbrev pub relation_start : Read → Started
relation_start (Err r) = Err r
relation_start (Ok m) = (sections_of m).columns

abbrev pub oid_start : Read → Started
oid_start (Err r) = Err r
oid_start (Ok m) = (sections_of m).oids
