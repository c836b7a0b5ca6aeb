-- What a search of a table finds after a change of it: a law for each of the operations, over any elements, tests and answers. Assumes nothing.
use mathlib.Core.Path.{◌≡◌, refl, ap}
use mathlib.Core.List.{List, [], ◌∷◌}
use mathlib.Core.Bool.{Bool, true, false, cond, ◌||◌, true≢false, false≢true}
use Prim.Native.Nat.{suc, ◌+◌}
use native.Mathlib.Omega.{arith}
use lib.ListN.{length}
use Rattle.wire.specs.Lists.{any, tally, replace_first, change, first_of}

module _ {A B : Type 0} (out : A → B) (rest : B) (p q : A → Bool) (b : A) where
  -- neither the row that goes nor the one that comes passes q
  pub first_swap_other : (l : List A) → ((a : A) → p a ≡ true → q a ≡ false) → q b ≡ false → first_of out rest q (replace_first p b l) ≡ first_of out rest q l
  first_swap_other [] other e = refl
  first_swap_other (a ∷ l) other e = go (p a) refl (first_swap_other l other e)
    where
      go : (v : Bool) → p a ≡ v → first_of out rest q (replace_first p b l) ≡ first_of out rest q l
          → first_of out rest q (cond (p a) (b ∷ l) (a ∷ replace_first p b l)) ≡ cond (q a) (out a) (first_of out rest q l)
      go true w r = rw (w, e, other a w)
      go false w r = rw (w, r)

  -- the row that comes passes q, and none does that is there
  pub first_swap_new : (l : List A) → any p l ≡ true → any q l ≡ false → q b ≡ true → first_of out rest q (replace_first p b l) ≡ out b
  first_swap_new [] some none e = absurd (false≢true some)
  first_swap_new (a ∷ l) some none e = go (p a) (q a) refl refl (first_swap_new l)
    where
      go : (v u : Bool) → p a ≡ v → q a ≡ u → (any p l ≡ true → any q l ≡ false → q b ≡ true → first_of out rest q (replace_first p b l) ≡ out b)
          → first_of out rest q (cond (p a) (b ∷ l) (a ∷ replace_first p b l)) ≡ out b
      go true u w w' r = rw (w, e)
      go false true w w' r = absurd (true≢false (rw w' at none))
      go false false w w' r = rw (w, w') (r (rw w at some) (rw w' at none) e)

module _ {A B : Type 0} (out : A → B) (rest : B) (q : A → Bool) (b : A) where
  -- the row that comes takes the place of the one that q finds
  pub first_swap_same : (l : List A) → any q l ≡ true → q b ≡ true → first_of out rest q (replace_first q b l) ≡ out b
  first_swap_same [] some e = absurd (false≢true some)
  first_swap_same (a ∷ l) some e = go (q a) refl (first_swap_same l)
    where
      go : (v : Bool) → q a ≡ v → (any q l ≡ true → q b ≡ true → first_of out rest q (replace_first q b l) ≡ out b)
          → first_of out rest q (cond (q a) (b ∷ l) (a ∷ replace_first q b l)) ≡ out b
      go true w r = rw (w, e)
      go false w r = rw (w, w) (r (rw w at some) e)

-- each row is changed
module _ {A B : Type 0} (out : A → B) (rest : B) (f : A → A) (q q' : A → Bool) (was : (a : A) → q (f a) ≡ q' a) where
  pub first-change : (l : List A) → ((a : A) → q' a ≡ true → out (f a) ≡ out a) → first_of out rest q (change f l) ≡ first_of out rest q' l
  first-change [] same = refl
  first-change (a ∷ l) same = go (q' a) refl (first-change l same)
    where
      go : (v : Bool) → q' a ≡ v → first_of out rest q (change f l) ≡ first_of out rest q' l
          → cond (q (f a)) (out (f a)) (first_of out rest q (change f l)) ≡ cond (q' a) (out a) (first_of out rest q' l)
      go true w r = rw (was a, w) (same a w)
      go false w r = rw (was a, w) r

module _ {A : Type 0} where
  pub tally-change : (f : A → A) (q q' : A → Bool) → ((a : A) → q (f a) ≡ q' a) → (l : List A) → tally q (change f l) ≡ tally q' l
  tally-change f q q' was [] = refl
  tally-change f q q' was (a ∷ l) = rw (was a, tally-change f q q' was l)

  pub change-length : (f : A → A) (l : List A) → length (change f l) ≡ length l
  change-length f [] = refl
  change-length f (a ∷ l) = ap suc (change-length f l)

  pub swap_length : (p : A → Bool) (b : A) (m : List A) → length (replace_first p b m) ≡ length m
  swap_length p b [] = refl
  swap_length p b (y ∷ m) = go (p y) (swap_length p b m)
    where
      go : (v : Bool) → length (replace_first p b m) ≡ length m → length (cond v (b ∷ m) (y ∷ replace_first p b m)) ≡ suc (length m)
      go true r = refl
      go false r = ap suc r

-- a test that nothing passes
module _ {A : Type 0} where
  pub tally_never : (l : List A) → tally (λ a. false) l ≡ 0
  tally_never [] = refl
  tally_never (a ∷ l) = let r = tally_never l in omega arith

module _ {A B : Type 0} (out : A → B) (rest : B) where
  pub first_never : (l : List A) → first_of out rest (λ a. false) l ≡ rest
  first_never [] = refl
  first_never (a ∷ l) = first_never l

-- a test that only adds what nothing passes
module _ {A : Type 0} (p r : A → Bool) where
  pub first_or : {B : Type 0} (out : A → B) (rest : B) (l : List A) → any r l ≡ false → first_of out rest (λ a. p a || r a) l ≡ first_of out rest p l
  first_or out rest [] none = refl
  first_or out rest (a ∷ l) none = go (r a) (p a) refl refl (first_or out rest l)
    where
      go : (v u : Bool) → r a ≡ v → p a ≡ u → (any r l ≡ false → first_of out rest (λ a. p a || r a) l ≡ first_of out rest p l)
          → cond (p a || r a) (out a) (first_of out rest (λ a. p a || r a) l) ≡ cond (p a) (out a) (first_of out rest p l)
      go true u w w' k = absurd (true≢false (rw w at none))
      go false true w w' k = rw w'
      go false false w w' k = rw (w', w) (k (rw w at none))

  pub tally_or : (l : List A) → any r l ≡ false → tally (λ a. p a || r a) l ≡ tally p l
  tally_or [] none = refl
  tally_or (a ∷ l) none = go (r a) (p a) refl refl (tally_or l)
    where
      go : (v u : Bool) → r a ≡ v → p a ≡ u → (any r l ≡ false → tally (λ a. p a || r a) l ≡ tally p l)
          → cond (p a || r a) 1 0 + tally (λ a. p a || r a) l ≡ cond (p a) 1 0 + tally p l
      go true u w w' k = absurd (true≢false (rw w at none))
      go false true w w' k = rw (w', k (rw w at none))
      go false false w w' k = rw (w', w, k (rw w at none))
