-- Rows with the same numbers. Assumes nothing.
use Prim.Native.Nat.{ℕ, zero, suc, ◌-◌, ◌<◌}
use mathlib.Core.List.{List}
use mathlib.Core.Bool.{Bool, true, false, ◌&&◌}
use mathlib.Core.Path.{◌≡◌, refl, sym, ◌∙◌}
use native.Mathlib.Omega.{arith}
use borrow.Author.Tests.{eq-eqb, ne_eqb, eqb-true, eqb-false}
use lib.Dec.{eqb}
use lib.ListN.{get_or}
use Rattle.capi.specs.Flat.{same}

-- THE LOOP, from the last number to the first

step : (k : ℕ) (a b : List ℕ) → 0 < k → same k a b ≡ (eqb (get_or a (k - 1) 0) (get_or b (k - 1) 0) && same (k - 1) a b)
unfolding same
step zero a b h = absurd (omega arith)
step (suc j) a b h = let e : suc j - 1 ≡ j = omega arith in rw e

and_true : (t : Bool) → t && true ≡ t
and_true true = refl
and_true false = refl

and_false : (t : Bool) → t && false ≡ false
and_false true = refl
and_false false = refl

-- a flag t so far, and what the first k numbers say
module _ (t : Bool) (k : ℕ) (a b : List ℕ) {all : Bool} (so_far : t && same k a b ≡ all) where
  pub differs : 0 < k → (get_or a (k - 1) 0 ≡ get_or b (k - 1) 0 → ⊥) → false ≡ all
  differs more d = sym (rw (step k a b more, ne_eqb (get_or a (k - 1) 0) (get_or b (k - 1) 0) d) (and_false t)) ∙ so_far

  pub agrees : 0 < k → get_or a (k - 1) 0 ≡ get_or b (k - 1) 0 → t && same (k - 1) a b ≡ all
  agrees more e = sym (rw (step k a b more, eq-eqb (get_or a (k - 1) 0) (get_or b (k - 1) 0) e)) ∙ so_far

  pub all_same : k ≡ 0 → t ≡ all
  unfolding same
  all_same z = sym (rw z (and_true t)) ∙ so_far

-- WHAT SAMENESS SAYS

pub same_self : (n : ℕ) (ns : List ℕ) → same n ns ns ≡ true
unfolding same
same_self zero ns = refl
same_self (suc n) ns = rw (eq-eqb (get_or ns n 0) (get_or ns n 0) refl) (same_self n ns)

both : (s t : Bool) → s && t ≡ true → (s ≡ true) × (t ≡ true)
both true t q = (refl, q)
both false t q = let z : ◌≡◌ {A = ℕ} 0 1 = cc in absurd (omega arith)

pub same_at : (n : ℕ) (ns ms : List ℕ) → same n ns ms ≡ true → (i : ℕ) → i < n → get_or ns i 0 ≡ get_or ms i 0
unfolding same
same_at zero ns ms q i l = absurd (omega arith)
same_at (suc n) ns ms q i l =
    let p = both (eqb (get_or ns n 0) (get_or ms n 0)) (same n ns ms) q in
    go (eqb-true (get_or ns n 0) (get_or ms n 0) p.0) (same_at n ns ms p.1 i) (eqb i n) refl
  where
    go : get_or ns n 0 ≡ get_or ms n 0 → (i < n → get_or ns i 0 ≡ get_or ms i 0) → (t : Bool) → eqb i n ≡ t → get_or ns i 0 ≡ get_or ms i 0
    go here below true e = rw (eqb-true i n e) here
    go here below false e = let d = eqb-false i n e in below (omega arith)
