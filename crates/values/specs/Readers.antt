-- To be believed (binary values). A column reader's step past a binary column: a step at its position.
use Rattle.std.specs.Prelude.{ℕ}
use Rattle.columns.specs.declared.ColumnReader.{ColumnReader}
use Rattle.columns.specs.declared.Step.{Step}
use Rattle.values.specs.declared.Value.{Value}
use Rattle.values.specs.Steps.{typed_step}

abbrev pub reader_typed : ColumnReader → ℕ → Step Value
reader_typed r oid = typed_step r.message.now r.position oid

-- the reader after a step: the same message, and the position that the step gives
abbrev pub typed_to : ColumnReader → ℕ → ColumnReader
typed_to r oid = record { message = r.message; position = (reader_typed r oid).next }
