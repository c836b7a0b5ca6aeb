-- Counting the elements of a list that pass a test; two lists in which each element stands as often are equally long. Assumes nothing.
use mathlib.Core.Path.{◌≡◌, refl, sym, ◌∙◌, ap}
use mathlib.Core.List.{List, [], ◌∷◌}
use mathlib.Core.Bool.{Bool, true, false, cond, not, ◌||◌, true≢false, false≢true}
use Prim.Native.Nat.{ℕ, suc, ◌+◌, ◌≤◌, ◌<◌}
use native.Mathlib.Omega.{arith}
use lib.ListN.{length}
use Rattle.wire.specs.Lists.{any, tally, replace_first, keep, distinct}

-- 1 for true
abbrev pub bit : Bool → ℕ
bit b = cond b 1 0

module _ {A : Type 0} where
  pub any-tally : (p : A → Bool) (l : List A) → any p l ≡ true → 0 < tally p l
  any-tally p [] e = absurd (false≢true e)
  any-tally p (a ∷ l) e = go (p a) refl (any-tally p l)
    where
      go : (v : Bool) → p a ≡ v → (any p l ≡ true → 0 < tally p l) → 0 < cond (p a) 1 0 + tally p l
      go true w r = rw w (omega arith)
      go false w r = let e' : any p l ≡ true = rw w at e in let k = r e' in rw w (omega arith)

  pub none-tally : (p : A → Bool) (l : List A) → any p l ≡ false → tally p l ≡ 0
  none-tally p [] e = refl
  none-tally p (a ∷ l) e = go (p a) refl (none-tally p l)
    where
      go : (v : Bool) → p a ≡ v → (any p l ≡ false → tally p l ≡ 0) → cond (p a) 1 0 + tally p l ≡ 0
      go true w r = absurd (true≢false (rw w at e))
      go false w r = let e' : any p l ≡ false = rw w at e in let k = r e' in rw w (omega arith)

  -- the test's answer from the count
  pub tally-any : (p : A → Bool) (l : List A) → 0 < tally p l → any p l ≡ true
  tally-any p l h = go (any p l) refl
    where
      go : (v : Bool) → any p l ≡ v → v ≡ true
      go true w = refl
      go false w = let k = none-tally p l w in absurd (omega arith)

  pub tally-none : (p : A → Bool) (l : List A) → tally p l ≡ 0 → any p l ≡ false
  tally-none p l h = go (any p l) refl
    where
      go : (v : Bool) → any p l ≡ v → v ≡ false
      go true w = let k = any-tally p l w in absurd (omega arith)
      go false w = refl

  -- a test that one passes at most
  pub tally_bit : (p : A → Bool) (l : List A) → tally p l ≤ 1 → tally p l ≡ bit (any p l)
  tally_bit p l h = go (any p l) refl
    where
      go : (v : Bool) → any p l ≡ v → tally p l ≡ bit v
      go true w = let k = any-tally p l w in omega arith
      go false w = none-tally p l w

  -- the first that passes p is replaced by b; all that pass p answer q alike
  pub swap_tally : (p q : A → Bool) (v : Bool) (b : A) (l : List A) → ((a : A) → p a ≡ true → q a ≡ v) → any p l ≡ true
      → tally q (replace_first p b l) + bit v ≡ tally q l + bit (q b)
  swap_tally p q v b [] same e = absurd (false≢true e)
  swap_tally p q v b (a ∷ l) same e = go (p a) refl (swap_tally p q v b l same)
    where
      go : (u : Bool) → p a ≡ u → (any p l ≡ true → tally q (replace_first p b l) + bit v ≡ tally q l + bit (q b))
          → tally q (cond (p a) (b ∷ l) (a ∷ replace_first p b l)) + bit v ≡ cond (q a) 1 0 + tally q l + bit (q b)
      go true w r = rw (w, same a w) (omega arith)
      go false w r = let k = r (rw w at e) in rw w (omega arith)

  pub keep-length : (p : A → Bool) (l : List A) → length (keep p l) + tally (λ a. not (p a)) l ≡ length l
  keep-length p [] = refl
  keep-length p (a ∷ l) = go (p a) refl (keep-length p l)
    where
      go : (u : Bool) → p a ≡ u → length (keep p l) + tally (λ x. not (p x)) l ≡ length l
          → length (cond (p a) (a ∷ keep p l) (keep p l)) + (cond (not (p a)) 1 0 + tally (λ x. not (p x)) l) ≡ suc (length l)
      go true w r = rw w (omega arith)
      go false w r = rw w (omega arith)

module _ {A : Type 0} (same : A → A → Bool) (same_eq : (a b : A) → same a b ≡ true → a ≡ b) (same_refl : (a : A) → same a a ≡ true) where
  pub tally-keep : (p : A → Bool) (x : A) (l : List A) → tally (same x) (keep p l) ≡ cond (p x) (tally (same x) l) 0
  tally-keep p x [] = go (p x)
    where
      go : (u : Bool) → ◌≡◌ {A = ℕ} 0 (cond u 0 0)
      go true = refl
      go false = refl
  tally-keep p x (a ∷ l) = go (p a) (p x) (same x a) refl refl refl (tally-keep p x l)
    where
      go : (u v w : Bool) → p a ≡ u → p x ≡ v → same x a ≡ w → tally (same x) (keep p l) ≡ cond (p x) (tally (same x) l) 0
          → tally (same x) (cond (p a) (a ∷ keep p l) (keep p l)) ≡ cond (p x) (cond (same x a) 1 0 + tally (same x) l) 0
      go true true w eu ev ew r = rw (eu, r, ev)
      go true false true eu ev ew r = absurd (true≢false (sym eu ∙ ap p (sym (same_eq x a ew)) ∙ ev))
      go true false false eu ev ew r = rw (eu, ew, r, ev)
      go false true true eu ev ew r = absurd (true≢false (sym ev ∙ ap p (same_eq x a ew) ∙ eu))
      go false true false eu ev ew r = rw (eu, ew, r, ev) (omega arith)
      go false false w eu ev ew r = rw (eu, r, ev)

  pub tally-distinct : (x : A) (l : List A) → tally (same x) (distinct same l) ≡ bit (any (same x) l)
  tally-distinct x [] = refl
  tally-distinct x (a ∷ l) = go (any (same a) l) (same x a) refl refl (tally-distinct x l)
    where
      go : (u w : Bool) → any (same a) l ≡ u → same x a ≡ w → tally (same x) (distinct same l) ≡ bit (any (same x) l)
          → tally (same x) (cond (any (same a) l) (distinct same l) (a ∷ distinct same l)) ≡ bit (same x a || any (same x) l)
      go true true eu ew r = let e : any (same x) l ≡ true = ap (λ (y : A). any (same y) l) (same_eq x a ew) ∙ eu in rw (eu, ew, r, e)
      go true false eu ew r = rw (eu, ew, r)
      go false true eu ew r = let e : any (same x) l ≡ false = ap (λ (y : A). any (same y) l) (same_eq x a ew) ∙ eu in rw (eu, ew, r, e)
      go false false eu ew r = rw (eu, ew, r) (omega arith)

  -- the list without the first element that passes
  abbrev without : (A → Bool) → List A → List A
  without p [] = []
  without p (a ∷ l) = cond (p a) l (a ∷ without p l)

  without-length : (p : A → Bool) (l : List A) → any p l ≡ true → length l ≡ suc (length (without p l))
  without-length p [] e = absurd (false≢true e)
  without-length p (a ∷ l) e = go (p a) refl (without-length p l)
    where
      go : (u : Bool) → p a ≡ u → (any p l ≡ true → length l ≡ suc (length (without p l)))
          → suc (length l) ≡ suc (length (cond (p a) l (a ∷ without p l)))
      go true w r = rw w
      go false w r = let k = r (rw w at e) in rw w (omega arith)

  without-tally : (x y : A) (l : List A) → any (same x) l ≡ true → tally (same y) l ≡ bit (same y x) + tally (same y) (without (same x) l)
  without-tally x y [] e = absurd (false≢true e)
  without-tally x y (a ∷ l) e = go (same x a) refl (without-tally x y l)
    where
      go : (u : Bool) → same x a ≡ u → (any (same x) l ≡ true → tally (same y) l ≡ bit (same y x) + tally (same y) (without (same x) l))
          → cond (same y a) 1 0 + tally (same y) l ≡ bit (same y x) + tally (same y) (cond (same x a) l (a ∷ without (same x) l))
      go true w r = rw w (ap (λ (z : A). cond (same y z) 1 0 + tally (same y) l) (sym (same_eq x a w)))
      go false w r = let k = r (rw w at e) in rw w (omega arith)

  pub length_by_counts : (k l : List A) → ((x : A) → tally (same x) k ≡ tally (same x) l) → length k ≡ length l
  length_by_counts [] [] h = refl
  length_by_counts [] (y ∷ l) h = let z : 0 ≡ cond (same y y) 1 0 + tally (same y) l = h y in
      let z' : 0 ≡ 1 + tally (same y) l = rw same_refl at z in absurd (omega arith)
  length_by_counts (x ∷ k) l h =
      let z : cond (same x x) 1 0 + tally (same x) k ≡ tally (same x) l = h x in
      let z' : 1 + tally (same x) k ≡ tally (same x) l = rw same_refl at z in
      let m : any (same x) l ≡ true = tally-any (same x) l (omega arith) in
      let r = length_by_counts k (without (same x) l) (λ y. let u = h y in let w = without-tally x y l m in omega arith) in
      let n = without-length (same x) l m in
      omega arith
