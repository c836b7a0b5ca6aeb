-- For contracts only. Where a tuple ends, as a plain offset.
use Rattle.std.specs.Prelude.{ℕ, List, Option, None, cond, length, ltb, Ok}
use Rattle.wire.specs.ValueEnd.{end_of}
use Rattle.message.specs.Layout.{tuple_end}
use Rattle.message.specs.Messages.{largest}

-- none where it is refused, or where the slice is longer than any message
unfoldable pub tuple_end_offset : List ℕ → ℕ → Option ℕ
tuple_end_offset xs start = cond (ltb largest (length xs)) None (end_of (tuple_end xs (Ok start)))
