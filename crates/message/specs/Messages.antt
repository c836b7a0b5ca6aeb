-- To be believed (demand 1). The message that a layout's numbers make, and what reading any bytes gives.
use Rattle.std.specs.Prelude.{ℕ, List, [], Bool, not, cond, eqb, ltb, get_or, length, Result, Ok, Err, Option, None, Some}
use Rattle.std.specs.Int.{w64}
use Rattle.std.proofs.Common.{to_z}
use Rattle.wire.specs.Cursors.{Cursor, refuse}
use Rattle.wire.specs.declared.Span.{Span}
use Rattle.wire.specs.declared.Refusal.{Refusal}
use Rattle.message.specs.declared.Version.{Version}
use Rattle.message.specs.declared.OldTuple.{OldTuple}
use Rattle.message.specs.declared.OldTuple.TheVariants.{Nothing, Key, Full}
use Rattle.message.specs.declared.Message.{Message}
use Rattle.message.specs.declared.Message.TheVariants as a
use Rattle.message.specs.Layout.{read_fields}
use Rattle.message.specs.Kinds.{Kind, begin, commit, origin, relation, type, insert, update, delete, truncate, message, stream_start, stream_stop, stream_commit, stream_abort, layout, kind_of}
use Rattle.message.specs.Versions.{version_allows, version_has}

-- the largest message, in bytes (document 01, "Numbers that bound it")
abbrev pub largest : ℕ
largest = 1073741823

-- THE MESSAGE

-- number j of part i of what was read; the first number of part i; the span that the two numbers of part i give
abbrev pub at : List (List ℕ) → ℕ → ℕ → ℕ
at v i j = get_or (get_or v i []) j 0

abbrev pub num : List (List ℕ) → ℕ → ℕ
num v i = at v i 0

abbrev pub span : List (List ℕ) → ℕ → Span
span v i = record { start = at v i 0; length = at v i 1 }

-- an old tuple's letter, K or O, and its start; 0 where there is none
abbrev pub old_tuple : ℕ → ℕ → OldTuple
old_tuple l start = cond (eqb l 0x4B) (Key start) (cond (eqb l 0x4F) (Full start) Nothing)

-- the message that a kind's numbers make
abbrev pub message_of : Kind → List (List ℕ) → Message
message_of begin v = a.Begin (record { final_lsn = num v 0; time = to_z w64 (num v 1); xid = num v 2 })
message_of commit v = a.Commit (record { flags = num v 0; commit_lsn = num v 1; end_lsn = num v 2; time = to_z w64 (num v 3) })
message_of origin v = a.Origin (record { lsn = num v 0; name = span v 1 })
message_of relation v = a.Relation (record { xid = num v 0; relation = num v 1; namespace = span v 2; name = span v 3; identity = num v 4; count = num v 5; columns = at v 5 1 })
message_of type v = a.«Type» (record { xid = num v 0; oid = num v 1; namespace = span v 2; name = span v 3 })
message_of insert v = a.Insert (record { xid = num v 0; relation = num v 1; tuple = num v 3 })
message_of update v = a.Update (record { xid = num v 0; relation = num v 1; old = old_tuple (num v 2) (at v 2 1); tuple = num v 4 })
message_of delete v = a.Delete (record { xid = num v 0; relation = num v 1; image = num v 2; tuple = num v 3 })
message_of truncate v = a.Truncate (record { xid = num v 0; count = num v 1; options = at v 1 1; relations = at v 1 2 })
message_of message v = a.Message (record { xid = num v 0; flags = num v 1; lsn = num v 2; prefix = span v 3; content = span v 4 })
message_of stream_start v = a.StreamStart (num v 0) (num v 1)
message_of stream_stop v = a.StreamStop
message_of stream_commit v = a.StreamCommit (record { xid = num v 0; flags = num v 1; commit_lsn = num v 2; end_lsn = num v 3; time = to_z w64 (num v 4) })
message_of stream_abort v = a.StreamAbort (num v 0) (num v 1)

-- READING

-- what reading gives
abbrev pub Read : Type 0
Read = Result Message Refusal

-- bytes left over are refused last
abbrev pub finished : List ℕ → Cursor → Cursor
finished xs (Ok at) = cond (eqb at (length xs)) (Ok at) (refuse 5 at)
finished xs (Err r) = Err r

abbrev pub settled : Cursor → Message → Read
settled (Ok at) m = Ok m
settled (Err r) m = Err r

-- a message of a kind, from the byte after the letter on
unfoldable pub read_kind : Kind → Bool → List ℕ → Read
read_kind k in_block xs =
    let r = read_fields in_block (layout k) xs (Ok 1) in
    settled (finished xs r.next) (message_of k r.parts)

abbrev pub read_named : Option Kind → Bool → List ℕ → Read
read_named None in_block xs = refuse 3 0
read_named (Some k) in_block xs = read_kind k in_block xs

-- version, then length, then letter, then the fields (document 01, "The refusal table")
unfoldable pub read_message : Version → Bool → List ℕ → Read
read_message v in_block xs =
    cond (not (version_allows v in_block)) (refuse 1 0)
    (cond (ltb largest (length xs)) (refuse 6 0)
    (cond (eqb (length xs) 0) (refuse 2 0)
    (cond (not (version_has v (kind_of (get_or xs 0 0)))) (refuse 3 0)
    (read_named (kind_of (get_or xs 0 0)) in_block xs))))
