-- To be believed (for C). A step past a binary column in numbers: what `kq_value_step` returns and fills in.
use Rattle.std.specs.Prelude.{ℕ, List, [], ◌∷◌, get_or, Option, Some, None, Result, Ok, Err}
use Rattle.wire.specs.declared.Refusal.{Refusal}
use Rattle.columns.specs.declared.Position.{Position}
use Rattle.values.specs.declared.Value.{Value}
use Rattle.capi_values.specs.Flat.{flat}

-- the position that two numbers are, and the numbers of a position
abbrev pub position_in : List ℕ → Position
position_in ps = record { offset = get_or ps 0 0; left = get_or ps 1 0 }

abbrev pub position_numbers : Position → List ℕ
position_numbers p = p.offset ∷ p.left ∷ []

-- 0; 255 where none are left; or a refusal
abbrev pub returned : Result (Option Value) Refusal → ℕ
returned (Ok (Some x)) = 0
returned (Ok None) = 255
returned (Err r) = r.number

-- the value's flat form; zeros; or a refusal's offset and zeros
abbrev pub numbers : Result (Option Value) Refusal → List ℕ
numbers (Ok (Some x)) = flat x
numbers (Ok None) = 0 ∷ 0 ∷ 0 ∷ []
numbers (Err r) = r.offset ∷ 0 ∷ 0 ∷ []
