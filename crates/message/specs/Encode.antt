-- To be believed (demand 2). A message as the parts of its layout, and the bytes of a number and of a part of a source.
use Rattle.std.specs.Prelude.{ℕ, zero, suc, ◌-◌, ◌/◌, ◌%◌, List, [], ◌∷◌, ◌++◌, take, drop}
use Rattle.std.specs.Int.{w64}
use Rattle.std.proofs.Common.{of_z}
use Rattle.wire.specs.Cursors.{Cursor}
use Rattle.wire.specs.declared.Span.{Span}
use Rattle.wire.specs.Fields.{position_of}
use Rattle.message.specs.declared.OldTuple.{OldTuple}
use Rattle.message.specs.declared.OldTuple.TheVariants.{Nothing, Key, Full}
use Rattle.message.specs.declared.Message.{Message}
use Rattle.message.specs.declared.Message.TheVariants as a
use Rattle.message.specs.Kinds.{Kind, begin, commit, origin, relation, type, insert, update, delete, truncate, message, stream_start, stream_stop, stream_commit, stream_abort}

-- k bytes that spell n, the most significant first
unfoldable pub digits : ℕ → ℕ → List ℕ
digits zero n = []
digits (suc k) n = digits k (n / 256) ++ (n % 256 ∷ [])

-- n bytes of a source from `start`
abbrev pub cut : List ℕ → ℕ → ℕ → List ℕ
cut src start n = take n (drop start src)

-- a source from `start` to a cursor
abbrev pub from_to : List ℕ → ℕ → Cursor → List ℕ
from_to src start c = cut src start (position_of c - start)

-- THE PARTS OF A MESSAGE

abbrev pub kind_of_message : Message → Kind
kind_of_message (a.Begin m) = begin
kind_of_message (a.Commit m) = commit
kind_of_message (a.Origin m) = origin
kind_of_message (a.Relation m) = relation
kind_of_message (a.«Type» m) = type
kind_of_message (a.Insert m) = insert
kind_of_message (a.Update m) = update
kind_of_message (a.Delete m) = delete
kind_of_message (a.Truncate m) = truncate
kind_of_message (a.Message m) = message
kind_of_message (a.StreamStart xid first) = stream_start
kind_of_message a.StreamStop = stream_stop
kind_of_message (a.StreamCommit m) = stream_commit
kind_of_message (a.StreamAbort xid sub) = stream_abort

abbrev pub only : ℕ → List ℕ
only n = n ∷ []

abbrev pub ends : Span → List ℕ
ends s = s.start ∷ s.length ∷ []

-- an old tuple's letter and start, 0 and 0 where there is none
abbrev pub old_numbers : OldTuple → List ℕ
old_numbers Nothing = 0 ∷ 0 ∷ []
old_numbers (Key start) = 0x4B ∷ start ∷ []
old_numbers (Full start) = 0x4F ∷ start ∷ []

-- the numbers of each part of a message's layout, as reading gives them; a time by its 64 bits
abbrev pub parts_of : Message → List (List ℕ)
parts_of (a.Begin m) = only m.final_lsn ∷ only (of_z w64 m.time) ∷ only m.xid ∷ []
parts_of (a.Commit m) = only m.flags ∷ only m.commit_lsn ∷ only m.end_lsn ∷ only (of_z w64 m.time) ∷ []
parts_of (a.Origin m) = only m.lsn ∷ ends m.name ∷ []
parts_of (a.Relation m) = only m.xid ∷ only m.relation ∷ ends m.namespace ∷ ends m.name ∷ only m.identity ∷ (m.count ∷ m.columns ∷ []) ∷ []
parts_of (a.«Type» m) = only m.xid ∷ only m.oid ∷ ends m.namespace ∷ ends m.name ∷ []
parts_of (a.Insert m) = only m.xid ∷ only m.relation ∷ [] ∷ only m.tuple ∷ []
parts_of (a.Update m) = only m.xid ∷ only m.relation ∷ old_numbers m.old ∷ [] ∷ only m.tuple ∷ []
parts_of (a.Delete m) = only m.xid ∷ only m.relation ∷ only m.image ∷ only m.tuple ∷ []
parts_of (a.Truncate m) = only m.xid ∷ (m.count ∷ m.options ∷ m.relations ∷ []) ∷ []
parts_of (a.Message m) = only m.xid ∷ only m.flags ∷ only m.lsn ∷ ends m.prefix ∷ ends m.content ∷ []
parts_of (a.StreamStart xid first) = only xid ∷ only first ∷ []
parts_of a.StreamStop = []
parts_of (a.StreamCommit m) = only m.xid ∷ only m.flags ∷ only m.commit_lsn ∷ only m.end_lsn ∷ only (of_z w64 m.time) ∷ []
parts_of (a.StreamAbort xid sub) = only xid ∷ only sub ∷ []
