-- For contracts only. What is passed over, and a tuple by where it starts.
use Rattle.std.specs.Prelude.{ℕ, List}
use Rattle.wire.specs.Cursors.{Cursor, Taken}
use Rattle.wire.specs.Fields.{position_of}
use Rattle.message.specs.Layout.{tuple_end}

-- no value, and where reading stands
abbrev pub passed : Cursor → Taken (Unit {0})
passed c = record { value = tt; next = c }

abbrev pub tuple_field : List ℕ → Cursor → Taken ℕ
tuple_field xs c = record { value = position_of c; next = tuple_end xs c }
