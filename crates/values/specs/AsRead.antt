-- For contracts only. A `b` column as the code reads it: its bytes, and its value by a type OID.
use Rattle.std.specs.Prelude.{ℕ, List, [], ◌∷◌, Result, Ok, Err}
use Rattle.wire.specs.declared.Refusal.{Refusal}
use Rattle.wire.specs.declared.Span.{Span}
use Rattle.wire.specs.Cursors.{Cursor, Taken}
use Rattle.wire.specs.Fields.{letter_field, value_field}
use Rattle.wire.specs.Readers.{given}
use Rattle.values.specs.declared.Value.{Value}
use Rattle.values.specs.Types.{kind_of_type, typed_value}

abbrev pub binary_field : List ℕ → Cursor → Taken Span
binary_field xs c = value_field xs (letter_field (0x62 ∷ []) xs c).next

abbrev pub typed_in : List ℕ → ℕ → Result Span Refusal → Result Value Refusal
typed_in xs oid (Ok s) = typed_value xs (kind_of_type oid) s.start s.length
typed_in xs oid (Err r) = Err r

abbrev pub typed_of : List ℕ → ℕ → Taken Span → Result Value Refusal
typed_of xs oid f = typed_in xs oid (given f)
