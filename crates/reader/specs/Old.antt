-- For contracts only. An Update's old tuple as the reader hands it on.
use Rattle.std.specs.Prelude.{List, ℕ}
use Rattle.wire.specs.Cursors.{Cursor, Taken}
use Rattle.message.specs.declared.OldTuple.{OldTuple}
use Rattle.message.specs.Layout.{optional}
use Rattle.message.specs.Kinds.{key_or_old}
use Rattle.message.specs.Messages.{old_tuple}

unfoldable pub old_field : List ℕ → Cursor → Taken OldTuple
old_field xs c = let o = optional key_or_old xs c in record { value = old_tuple o.letter o.start; next = o.next }
