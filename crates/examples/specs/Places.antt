-- For contracts only. What is left of a text after a part of it was read, by what was left before
use Rattle.std.specs.Prelude.{ℕ, ◌<◌, ◌≤◌, List, length}

-- no more than before
abbrev pub Onward : List ℕ → List ℕ → Type 0
Onward before after = length after ≤ length before

-- less, unless nothing was left
pub record Beyond (before after : List ℕ) : Type 0 where
  pub within : length after ≤ length before
  pub beyond : 0 < length before → length after < length before
