-- To be believed (demand 1). Where reading stands, and a refusal (document 01, "The refusal table").
use Rattle.std.specs.Prelude.{ℕ, Result, Err}
use Rattle.wire.specs.declared.Refusal.{Refusal}

-- the offset where reading stands, or the refusal that stopped it
abbrev pub Cursor : Type 0
Cursor = Result ℕ Refusal

-- refusal n of the table, at an offset
abbrev pub refusal : ℕ → ℕ → Refusal
refusal n offset = record { number = n; offset = offset }

abbrev pub refuse : {A : Type 0} → ℕ → ℕ → Result A Refusal
refuse n offset = Err (refusal n offset)

-- what a field holds, and where reading stands after it
pub record Taken (A : Type 0) : Type 0 where
  pub value : A
  pub next : Cursor
