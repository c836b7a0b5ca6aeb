-- To be believed (for C). What a function of C's returns, the numbers that it fills in, and a number that says yes or no.
use Rattle.std.specs.Prelude.{ℕ, zero, suc, List, [], ◌∷◌, Bool, not, eqb}

pub record Filled : Type 0 where
  pub returned : ℕ
  pub numbers : List ℕ

abbrev pub filled : ℕ → List ℕ → Filled
filled r ns = record { returned = r; numbers = ns }

-- n numbers: those of a list, and zeros behind them
abbrev pub padded : ℕ → List ℕ → List ℕ
padded zero ns = []
padded (suc n) [] = 0 ∷ padded n []
padded (suc n) (x ∷ ns) = x ∷ padded n ns

-- 0 is outside a stream block, and any other number inside one
abbrev pub inside : ℕ → Bool
inside n = not (eqb n 0)
