-- To be believed (binary values). One step past a binary column, from any position (document 02, #109): over the same fields and steps as `columns`.
use Rattle.std.specs.Prelude.{ℕ, List, [], ◌∷◌, get_or, Option, Some, None, Result, Ok, Err}
use Rattle.wire.specs.declared.Refusal.{Refusal}
use Rattle.wire.specs.Cursors.{refuse}
use Rattle.message.specs.Layout.{Field, constant, value}
use Rattle.columns.specs.declared.Position.{Position}
use Rattle.columns.specs.declared.Step.{Step}
use Rattle.columns.specs.Steps.{StepAnswer, over, gives, refused, step_at, after}
use Rattle.values.specs.declared.Value.{Value}
use Rattle.values.specs.Types.{kind_of_type, typed_value}

-- the letter `b`, a length and that many bytes
abbrev pub binary : List Field
binary = constant 0x62 ∷ value ∷ []

abbrev pub one : Result Value Refusal → Result (Option Value) Refusal
one (Ok x) = Ok (Some x)
one (Err r) = Err r

-- what was stepped past, its value read by a type OID
abbrev pub typed_item : List ℕ → ℕ → StepAnswer → Result (Option Value) Refusal
typed_item xs oid over = Ok None
typed_item xs oid (gives g e) = one (typed_value xs (kind_of_type oid) (get_or g 0 0) (get_or g 1 0))
typed_item xs oid (refused n o) = refuse n o

-- past a value; where it was after any other answer
abbrev pub moved_by : Result (Option Value) Refusal → Position → Position → Position
moved_by (Ok (Some x)) to from = to
moved_by (Ok None) to from = from
moved_by (Err r) to from = from

unfoldable pub typed_step : List ℕ → Position → ℕ → Step Value
typed_step xs p oid =
    let s = step_at binary xs p in
    let k = typed_item xs oid s in
    record { item = k; next = moved_by k (after s p) p }
