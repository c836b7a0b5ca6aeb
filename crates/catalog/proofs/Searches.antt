-- A search by index: where std's `position` stops, and what the first index says of `any`, `first_of` and `replace_first`.
use mathlib.Core.Path.{◌≡◌, refl, sym, ◌∙◌, ap}
use mathlib.Core.List.{List, [], ◌∷◌}
use mathlib.Core.Bool.{Bool, true, false, cond, not, ◌||◌}
use Prim.Native.Nat.{ℕ, suc, ◌+◌, ◌≤◌, ◌<◌}
use native.Mathlib.Omega.{arith}
use lib.Dec.{ltb}
use lib.ListN.{length, get_or, set}
use borrow.Author.Tests.{ltb-true, ltb-false}
use Rattle.std.specs.Prelude.{Some, None}
use Rattle.std.specs.List.{position, position_or_len}
use Rattle.wire.specs.Lists.{any, replace_first, first_of, index_of}

module _ {A : Type 0} (p : A → Bool) where
  index_is : (l : List A) → position_or_len p l ≡ index_of p l
  index_is [] = refl
  index_is (a ∷ l) = go (p a) (index_is l)
    where
      go : (v : Bool) → position_or_len p l ≡ index_of p l → cond (not v) (1 + position_or_len p l) 0 ≡ cond v 0 (suc (index_of p l))
      go true r = refl
      go false r = rw r (omega arith)

  pub position_some : (l : List A) (i : ℕ) → position p l ≡ Some i → (i ≡ index_of p l) × (i < length l)
  position_some l i = go (ltb (position_or_len p l) (length l)) refl
    where
      go : (v : Bool) → ltb (position_or_len p l) (length l) ≡ v → cond v (Some (position_or_len p l)) None ≡ Some i → (i ≡ index_of p l) × (i < length l)
      go true w e = let k : position_or_len p l ≡ i = cc in (sym k ∙ index_is l, omega (arith, ltb-true (position_or_len p l) (length l) w))
      go false w e = cc

  pub position_none : (l : List A) → position p l ≡ None → length l ≤ index_of p l
  position_none l = go (ltb (position_or_len p l) (length l)) refl
    where
      go : (v : Bool) → ltb (position_or_len p l) (length l) ≡ v → cond v (Some (position_or_len p l)) None ≡ None → length l ≤ index_of p l
      go true w e = cc
      go false w e = omega (arith, ltb-false (position_or_len p l) (length l) w, index_is l)

  -- a first index, or none
  pub index_most : (l : List A) → index_of p l ≤ length l
  index_most [] = omega arith
  index_most (a ∷ l) = go (p a) (index_most l)
    where
      go : (v : Bool) → index_of p l ≤ length l → cond v 0 (suc (index_of p l)) ≤ suc (length l)
      go true r = omega arith
      go false r = omega arith

  pub any_at : (l : List A) → index_of p l < length l → any p l ≡ true
  any_at [] h = absurd (omega (arith, h))
  any_at (a ∷ l) h = go (p a) refl (any_at l)
    where
      go : (v : Bool) → p a ≡ v → (index_of p l < length l → any p l ≡ true) → p a || any p l ≡ true
      go true w r = rw w
      go false w r = rw w (r (let s = rw w at h in omega (arith, s)))

  pub any_not : (l : List A) → length l ≤ index_of p l → any p l ≡ false
  any_not [] h = refl
  any_not (a ∷ l) h = go (p a) refl (any_not l)
    where
      go : (v : Bool) → p a ≡ v → (length l ≤ index_of p l → any p l ≡ false) → p a || any p l ≡ false
      go true w r = let s = rw w at h in absurd (omega (arith, s))
      go false w r = rw w (r (let s = rw w at h in omega (arith, s)))

  pub swap_at : (b : A) (l : List A) → replace_first p b l ≡ set l (index_of p l) b
  swap_at b [] = refl
  swap_at b (a ∷ l) = go (p a) (swap_at b l)
    where
      go : (v : Bool) → replace_first p b l ≡ set l (index_of p l) b → cond v (b ∷ l) (a ∷ replace_first p b l) ≡ set (a ∷ l) (cond v 0 (suc (index_of p l))) b
      go true r = refl
      go false r = ap (λ (m : List A). a ∷ m) r

module _ {A B : Type 0} (out : A → B) (none : B) (p : A → Bool) (d : A) where
  pub first-at : (l : List A) → index_of p l < length l → first_of out none p l ≡ out (get_or l (index_of p l) d)
  first-at [] h = absurd (omega (arith, h))
  first-at (a ∷ l) h = go (p a) refl (first-at l)
    where
      go : (v : Bool) → p a ≡ v → (index_of p l < length l → first_of out none p l ≡ out (get_or l (index_of p l) d))
          → cond (p a) (out a) (first_of out none p l) ≡ out (get_or (a ∷ l) (cond (p a) 0 (suc (index_of p l))) d)
      go true w r = rw w
      go false w r = rw w (r (let s = rw w at h in omega (arith, s)))

  pub first_not : (l : List A) → length l ≤ index_of p l → first_of out none p l ≡ none
  first_not [] h = refl
  first_not (a ∷ l) h = go (p a) refl (first_not l)
    where
      go : (v : Bool) → p a ≡ v → (length l ≤ index_of p l → first_of out none p l ≡ none) → cond (p a) (out a) (first_of out none p l) ≡ none
      go true w r = let s = rw w at h in absurd (omega (arith, s))
      go false w r = rw w (r (let s = rw w at h in omega (arith, s)))
