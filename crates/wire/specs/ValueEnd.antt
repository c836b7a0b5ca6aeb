-- For contracts only. The good path of a value: where a length and its bytes end.
use Rattle.std.specs.Prelude.{ℕ, ◌+◌, cond, List, length, Option, Some, None, Ok, Err, nat_le}
use Rattle.wire.specs.Cursors.{Cursor}
use Rattle.wire.specs.Numbers.{be}

-- the length taken as unsigned, and none where they go past the end.
-- In a list of at most 0x7FFFFFFF bytes this is the position that `value_field` ends at (proofs/Values)
unfoldable pub value_end : List ℕ → ℕ → Option ℕ
value_end xs at =
    cond (nat_le (at + 4) (length xs))
    (cond (nat_le (at + 4 + be 4 xs at) (length xs)) (Some (at + 4 + be 4 xs at)) None)
    None

-- where a cursor stands, if it has not refused
abbrev pub end_of : Cursor → Option ℕ
end_of (Ok at) = Some at
end_of (Err r) = None
