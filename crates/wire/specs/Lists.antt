-- To be believed (demand 3, where its definitions name these). Lists: tests over their elements, whether one passes, how many pass, those that pass; the first of a list of numbers, and the rest. Pairs of numbers.
use Rattle.std.specs.Prelude.{ℕ, suc, ◌+◌, Bool, false, cond, ◌&&◌, ◌||◌, List, [], ◌∷◌, ◌==◌}

module _ {A : Type 0} where
  abbrev pub any : (A → Bool) → List A → Bool
  any p [] = false
  any p (a ∷ l) = p a || any p l

  abbrev pub tally : (A → Bool) → List A → ℕ
  tally p [] = 0
  tally p (a ∷ l) = cond (p a) 1 0 + tally p l

  abbrev pub replace_first : (A → Bool) → A → List A → List A
  replace_first p b [] = []
  replace_first p b (a ∷ l) = cond (p a) (b ∷ l) (a ∷ replace_first p b l)

  abbrev pub change : (A → A) → List A → List A
  change f [] = []
  change f (a ∷ l) = f a ∷ change f l

  -- what the first that passes has, else `none`
  abbrev pub first_of : {B : Type 0} → (A → B) → B → (A → Bool) → List A → B
  first_of out none p [] = none
  first_of out none p (a ∷ l) = cond (p a) (out a) (first_of out none p l)

  abbrev pub keep : (A → Bool) → List A → List A
  keep p [] = []
  keep p (a ∷ l) = cond (p a) (a ∷ keep p l) (keep p l)

  -- each element once
  abbrev pub distinct : (A → A → Bool) → List A → List A
  distinct same [] = []
  distinct same (a ∷ l) = cond (any (same a) l) (distinct same l) (a ∷ distinct same l)

  -- where the first that passes stands, else the length
  abbrev pub index_of : (A → Bool) → List A → ℕ
  index_of p [] = 0
  index_of p (a ∷ l) = cond (p a) 0 (suc (index_of p l))

  -- one number of each
  abbrev pub each : (A → ℕ) → List A → List ℕ
  each f [] = []
  each f (a ∷ l) = f a ∷ each f l

abbrev pub first : List ℕ → ℕ
first [] = 0
first (a ∷ l) = a

abbrev pub rest : List ℕ → List ℕ
rest [] = []
rest (a ∷ l) = l

pub data Pair : Type 0 where
  pair : (a b : ℕ) → Pair

abbrev pub same_pair : Pair → Pair → Bool
same_pair (pair a b) (pair c d) = c == a && d == b
