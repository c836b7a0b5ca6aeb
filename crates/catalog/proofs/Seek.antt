-- The laws of a search: where it ends, that it looks at nothing outside its range, and what it finds in a sorted list. Assumes nothing.
use mathlib.Core.Path.{◌≡◌, refl, sym, ◌∙◌, ap}
use mathlib.Core.Bool.{Bool, true, false, cond}
use Prim.Native.Nat.{ℕ, zero, suc, ◌+◌, ◌-◌, ◌/◌, ◌≤◌, ◌<◌}
use native.Mathlib.Omega.{arith}
use lib.Dec.{eqb, ltb}
use native.Mathlib.Nat.{zero-add, suc-add}
use borrow.Author.Tests.{ltb-true, ltb-false, eqb-true, eqb-false, eq-eqb}
use Rattle.catalog.specs.Table.{looked, seek}

-- how many rows n looks can search: fewer than this
abbrev pub reach : ℕ → ℕ
reach zero = 1
reach (suc n) = reach n + reach n

module _ (at : ℕ → ℕ) (k : ℕ) where
  pub seek_zero : (base size : ℕ) → seek 0 at k base size ≡ base
  unfolding seek
  seek_zero base size = refl

  pub seek_look : (n base size : ℕ) → seek (suc n) at k base size ≡ seek n at k (looked at k base size) (size / 2)
  unfolding seek
  seek_look n base size = refl

  -- where a look leads
  pub looked-ends : (base size : ℕ) → (base ≤ looked at k base size) × (looked at k base size + size / 2 ≤ base + size)
  looked-ends base size = go (eqb size 0) (ltb (at (base + (size - 1) / 2)) k) refl
    where
      go : (u v : Bool) → eqb size 0 ≡ u
          → (base ≤ cond u base (cond v (base + (size - 1) / 2 + 1) base)) × (cond u base (cond v (base + (size - 1) / 2 + 1) base) + size / 2 ≤ base + size)
      go true v e = (omega arith, omega arith)
      go false true e = let z = eqb-false size 0 e in (omega arith, omega arith)
      go false false e = (omega arith, omega arith)

  -- where a search ends, however the looks go
  pub seek-ends : (n base size : ℕ) → (base ≤ seek n at k base size) × (seek n at k base size ≤ base + size)
  seek-ends zero base size = rw (seek_zero base size) (omega arith, omega arith)
  seek-ends (suc n) base size =
      let r = seek-ends n (looked at k base size) (size / 2) in
      let q = looked-ends base size in
      rw (seek_look n base size) (omega (arith, r.0, q.0), omega (arith, r.1, q.1))

  -- a place m with smaller keys before it and no smaller ones from it on
  pub seek_finds : (m n base size : ℕ) → size < reach n → base ≤ m → m ≤ base + size
      → ((i : ℕ) → i < m → at i < k) → ((i : ℕ) → m ≤ i → i < base + size → k ≤ at i) → seek n at k base size ≡ m
  seek_finds m zero base size h lo hi below above = seek_zero base size ∙ (let e : base ≡ m = omega arith in e)
  seek_finds m (suc n) base size h lo hi below above =
      let q = stays (eqb size 0) (ltb (at (base + (size - 1) / 2)) k) (ltb (base + (size - 1) / 2) m) refl refl refl in
      seek_look n base size
      ∙ seek_finds m n (looked at k base size) (size / 2) (omega arith) q.0 q.1 below (λ i a b. above i a (omega (arith, b, (looked-ends base size).1)))
    where
      stays : (z v u : Bool) → eqb size 0 ≡ z → ltb (at (base + (size - 1) / 2)) k ≡ v → ltb (base + (size - 1) / 2) m ≡ u
          → (cond z base (cond v (base + (size - 1) / 2 + 1) base) ≤ m) × (m ≤ cond z base (cond v (base + (size - 1) / 2 + 1) base) + size / 2)
      stays true v u e w d = let s = eqb-true size 0 e in (omega arith, omega arith)
      stays false true true e w d = let s = eqb-false size 0 e in let q = ltb-true (base + (size - 1) / 2) m d in (omega arith, omega arith)
      stays false true false e w d =
          let s = eqb-false size 0 e in let q = ltb-false (base + (size - 1) / 2) m d in let x = above (base + (size - 1) / 2) q (omega arith) in
          absurd (omega (arith, ltb-true (at (base + (size - 1) / 2)) k w))
      stays false false true e w d =
          let q = ltb-true (base + (size - 1) / 2) m d in let x = below (base + (size - 1) / 2) q in absurd (omega (arith, ltb-false (at (base + (size - 1) / 2)) k w))
      stays false false false e w d = let q = ltb-false (base + (size - 1) / 2) m d in (omega arith, omega arith)

-- LOOKS ONE BY ONE
module _ (at : ℕ → ℕ) (k : ℕ) where
  seek_on : (n base size b : ℕ) → b ≡ looked at k base size → seek n at k b (size / 2) ≡ seek (suc n) at k base size
  seek_on n base size b e = ap (λ (x : ℕ). seek n at k x (size / 2)) e ∙ sym (seek_look at k n base size)

  pub seek_four : (base size b1 b2 b3 b4 : ℕ) → b1 ≡ looked at k base size → b2 ≡ looked at k b1 (size / 2) → b3 ≡ looked at k b2 (size / 2 / 2)
      → b4 ≡ looked at k b3 (size / 2 / 2 / 2) → b4 ≡ seek 4 at k base size
  seek_four base size b1 b2 b3 b4 e1 e2 e3 e4 =
      sym (seek_zero at k b4 (size / 2 / 2 / 2 / 2)) ∙ seek_on 0 b3 (size / 2 / 2 / 2) b4 e4 ∙ seek_on 1 b2 (size / 2 / 2) b3 e3 ∙ seek_on 2 b1 (size / 2) b2 e2
      ∙ seek_on 3 base size b1 e1

  pub seek_five : (base size b1 b2 b3 b4 b5 : ℕ) → b1 ≡ looked at k base size → b2 ≡ looked at k b1 (size / 2) → b3 ≡ looked at k b2 (size / 2 / 2)
      → b4 ≡ looked at k b3 (size / 2 / 2 / 2) → b5 ≡ looked at k b4 (size / 2 / 2 / 2 / 2) → seek 4 at k b5 (size / 2 / 2 / 2 / 2 / 2) ≡ seek 9 at k base size
  seek_five base size b1 b2 b3 b4 b5 e1 e2 e3 e4 e5 =
      seek_on 4 b4 (size / 2 / 2 / 2 / 2) b5 e5 ∙ seek_on 5 b3 (size / 2 / 2 / 2) b4 e4 ∙ seek_on 6 b2 (size / 2 / 2) b3 e3 ∙ seek_on 7 b1 (size / 2) b2 e2
      ∙ seek_on 8 base size b1 e1

  -- with no place left nothing more is looked at
  pub looked-none : (base size : ℕ) → size ≡ 0 → looked at k base size ≡ base
  looked-none base size e = rw (eq-eqb size 0 e)

  pub seek-none : (n base size : ℕ) → size ≡ 0 → seek n at k base size ≡ base
  seek-none zero base size e = seek_zero at k base size
  seek-none (suc n) base size e = seek_look at k n base size ∙ seek-none n (looked at k base size) (size / 2) (omega arith) ∙ looked-none base size e

  seek_enough : (n m base size : ℕ) → size < reach n → seek n at k base size ≡ seek (n + m) at k base size
  seek_enough zero m base size h =
      seek_zero at k base size ∙ sym (ap (λ (j : ℕ). seek j at k base size) (zero-add m) ∙ seek-none m base size (omega (arith, h)))
  seek_enough (suc n) m base size h =
      seek_look at k n base size
      ∙ seek_enough n m (looked at k base size) (size / 2) (omega arith)
      ∙ sym (ap (λ (j : ℕ). seek j at k base size) (suc-add n m) ∙ seek_look at k (n + m) base size)

  -- four looks are enough for fewer than 16
  pub seek_few : (base size : ℕ) → size < 16 → seek 4 at k base size ≡ seek 9 at k base size
  seek_few base size h = seek_enough 4 5 base size (omega arith)

-- a search looks at nothing outside its range
pub seek-same : (at bt : ℕ → ℕ) (k n base size : ℕ) → ((i : ℕ) → base ≤ i → i < base + size → at i ≡ bt i) → seek n at k base size ≡ seek n bt k base size
seek-same at bt k zero base size same = seek_zero at k base size ∙ sym (seek_zero bt k base size)
seek-same at bt k (suc n) base size same =
    let q = looked-ends at k base size in
    seek_look at k n base size
    ∙ seek-same at bt k n (looked at k base size) (size / 2) (λ i a b. same i (omega (arith, a, q.0)) (omega (arith, b, q.1)))
    ∙ ap (λ (b : ℕ). seek n bt k b (size / 2)) (one (eqb size 0) refl)
    ∙ sym (seek_look bt k n base size)
  where
    one : (v : Bool) → eqb size 0 ≡ v
        → cond v base (cond (ltb (at (base + (size - 1) / 2)) k) (base + (size - 1) / 2 + 1) base) ≡ cond v base (cond (ltb (bt (base + (size - 1) / 2)) k) (base + (size - 1) / 2 + 1) base)
    one true e = refl
    one false e = let z = eqb-false size 0 e in ap (λ (x : ℕ). cond (ltb x k) (base + (size - 1) / 2 + 1) base) (same (base + (size - 1) / 2) (omega arith) (omega arith))
