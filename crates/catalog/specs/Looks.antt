-- For contracts only. THE PLACES AT WHICH A SEARCH LOOKS, in order.
use Rattle.std.specs.Prelude.{ℕ, zero, suc, ◌+◌, ◌-◌, ◌/◌, List, [], ◌∷◌, cond, eqb}
use Rattle.catalog.specs.Table.{looked}

abbrev pub looks : ℕ → (ℕ → ℕ) → ℕ → ℕ → ℕ → List ℕ
looks zero at k base size = []
looks (suc n) at k base size = cond (eqb size 0) [] ((base + (size - 1) / 2) ∷ looks n at k (looked at k base size) (size / 2))
