-- To be believed (stepping). What a column reader does: a step at its position, and the span of the value in its message.
use Rattle.std.specs.Prelude.{ℕ, List, Option, Some, None, Result, Ok, Err}
use Rattle.wire.specs.declared.Refusal.{Refusal}
use Rattle.wire.specs.declared.Span.{Span}
use Rattle.columns.specs.declared.Column.{Column}
use Rattle.columns.specs.declared.Step.{Step}
use Rattle.columns.specs.declared.ColumnReader.{ColumnReader}
use Rattle.columns.specs.Parts.{empty_span}
use Rattle.columns.specs.Steps.{tuple_step}

-- the step at a position
abbrev pub step_from : List ℕ → (offset left : ℕ) → Step Column
step_from xs offset left = tuple_step xs (record { offset = offset; left = left })

-- the step at a reader's position
abbrev pub reader_step : ColumnReader → Step Column
reader_step r = tuple_step r.message.now r.position

-- the reader after a step: the same message, and the position that the step gives
abbrev pub moved_to : ColumnReader → ColumnReader
moved_to r = record { message = r.message; position = (reader_step r).next }

-- the span of a column's value; the empty one where it has none
abbrev pub span_of : Result (Option Column) Refusal → Span
span_of (Ok (Some c)) = c.value
span_of (Ok None) = empty_span
span_of (Err r) = empty_span
