-- A search looks at nine rows at most: its places are at most nine, its answer follows from the keys there alone, and the row that it
-- ends at, where it is one, is one of them. Assumes nothing.
use mathlib.Core.Path.{subst, ◌≡◌, refl, sym, ◌∙◌, ap}
use mathlib.Core.List.{List, [], ◌∷◌}
use mathlib.Core.Bool.{Bool, true, false, cond, ◌||◌, true≢false}
use Prim.Native.Nat.{ℕ, zero, suc, ◌+◌, ◌-◌, ◌/◌, ◌≤◌, ◌<◌}
use native.Mathlib.Omega.{arith}
use lib.Dec.{eqb, ltb}
use lib.ListN.{length}
use borrow.Author.Tests.{ltb-true, ltb-false, eqb-true, eqb-false, eq-eqb, ne_eqb, lt-ltb}
use Rattle.wire.specs.Lists.{any}
use Rattle.catalog.specs.declared.rows.Row.{Row}
use Rattle.catalog.specs.Table.{looked, seek, is, key_at, place_in}
use Rattle.catalog.specs.Looks.{looks}
use Rattle.catalog.proofs.Seek.{seek_zero, seek_look, seek-none, seek-ends, reach}

looks_few : (at : ℕ → ℕ) (k n base size : ℕ) → length (looks n at k base size) ≤ n
looks_few at k zero base size = omega arith
looks_few at k (suc n) base size = go (eqb size 0) (looks_few at k n (looked at k base size) (size / 2))
  where
    go : (v : Bool) → length (looks n at k (looked at k base size) (size / 2)) ≤ n
        → length (cond v [] ((base + (size - 1) / 2) ∷ looks n at k (looked at k base size) (size / 2))) ≤ suc n
    go true r = omega arith
    go false r = omega arith

or_later : (a b : Bool) → b ≡ true → a || b ≡ true
or_later true b e = refl
or_later false b e = e

in_later : (v : Bool) → v ≡ false → (x : ℕ) (xs : List ℕ) (i : ℕ) → any (is i) xs ≡ true → any (is i) (cond v [] (x ∷ xs)) ≡ true
in_later true e x xs i h = absurd (true≢false e)
in_later false e x xs i h = or_later (eqb x i) (any (is i) xs) h

module _ (at : ℕ → ℕ) (k : ℕ) where
  looked_some : (base size : ℕ) → (size ≡ 0 → ⊥) → looked at k base size ≡ cond (ltb (at (base + (size - 1) / 2)) k) (base + (size - 1) / 2 + 1) base
  looked_some base size z = rw (ne_eqb size 0 z)

  -- a search that ends behind its range saw that the last key is below
  seek-last : (n base size : ℕ) → 0 < size → size < reach n → seek n at k base size ≡ base + size → at (base + size - 1) < k
  seek-last zero base size some h e = absurd (omega (arith, h, some))
  seek-last (suc n) base size some h e = go (ltb (at (base + (size - 1) / 2)) k) refl (eqb (size / 2) 0) refl (λ b. seek-last n b (size / 2))
    where
      go : (v : Bool) → ltb (at (base + (size - 1) / 2)) k ≡ v → (u : Bool) → eqb (size / 2) 0 ≡ u
          → ((b : ℕ) → 0 < size / 2 → size / 2 < reach n → seek n at k b (size / 2) ≡ b + size / 2 → at (b + size / 2 - 1) < k) → at (base + size - 1) < k
      go false w u q r =
          let l : looked at k base size ≡ base = looked_some base size (λ z. omega arith) ∙ rw w in
          let s = (seek-ends at k n (looked at k base size) (size / 2)).1 in
          let f = sym (seek_look at k n base size) ∙ e in
          absurd (omega arith)
      go true w true q r =
          let z = eqb-true (size / 2) 0 q in
          let m : base + (size - 1) / 2 ≡ base + size - 1 = omega arith in
          ltb-true (at (base + size - 1)) k (ap (λ (i : ℕ). ltb (at i) k) (sym m) ∙ w)
      go true w false q r =
          let z = eqb-false (size / 2) 0 q in
          let l : looked at k base size ≡ base + (size - 1) / 2 + 1 = looked_some base size (λ z. omega arith) ∙ rw w in
          let f : seek n at k (base + (size - 1) / 2 + 1) (size / 2) ≡ base + size = ap (λ (b : ℕ). seek n at k b (size / 2)) (sym l) ∙ sym (seek_look at k n base size) ∙ e in
          let m : base + (size - 1) / 2 + 1 + size / 2 - 1 ≡ base + size - 1 = omega arith in
          let x = r (base + (size - 1) / 2 + 1) (omega arith) (omega arith) (f ∙ (let y : base + size ≡ base + (size - 1) / 2 + 1 + size / 2 = omega arith in y)) in
          rw m at x

  -- where it ends inside its range it looked
  ends-looked : (n base size : ℕ) → size < reach n → seek n at k base size < base + size → any (is (seek n at k base size)) (looks n at k base size) ≡ true
  ends-looked zero base size h b = absurd (omega (arith, h, b, (seek-ends at k 0 base size).0))
  ends-looked (suc n) base size h b = go (eqb size 0) refl (ltb (at (base + (size - 1) / 2)) k) refl (λ i. ends-looked n i (size / 2))
    where
      go : (z : Bool) → eqb size 0 ≡ z → (v : Bool) → ltb (at (base + (size - 1) / 2)) k ≡ v
          → ((i : ℕ) → size / 2 < reach n → seek n at k i (size / 2) < i + size / 2 → any (is (seek n at k i (size / 2))) (looks n at k i (size / 2)) ≡ true)
          → any (is (seek (suc n) at k base size)) (cond z [] ((base + (size - 1) / 2) ∷ looks n at k (looked at k base size) (size / 2))) ≡ true
      go true e v w r = absurd (omega (arith, b, (seek-ends at k (suc n) base size).0, eqb-true size 0 e))
      go false e true w r =
          let z = eqb-false size 0 e in
          let l : looked at k base size ≡ base + (size - 1) / 2 + 1 = looked_some base size z ∙ rw w in
          let f = seek_look at k n base size in
          let m : seek n at k (looked at k base size) (size / 2) < looked at k base size + size / 2 = omega arith in
          let P : ℕ → Type 0 = λ s. any (is s) ((base + (size - 1) / 2) ∷ looks n at k (looked at k base size) (size / 2)) ≡ true in
          subst P (sym f) (or_later (eqb (base + (size - 1) / 2) (seek n at k (looked at k base size) (size / 2))) _ (r (looked at k base size) (omega arith) m))
      go false e false w r =
          let z = eqb-false size 0 e in
          let l : looked at k base size ≡ base = looked_some base size z ∙ rw w in
          let f = seek_look at k n base size in
          let P : ℕ → Type 0 = λ s. any (is s) ((base + (size - 1) / 2) ∷ looks n at k (looked at k base size) (size / 2)) ≡ true in
          subst P (sym f) (inner l (ltb (seek n at k (looked at k base size) (size / 2)) (looked at k base size + size / 2)) refl z)
        where
          inner : looked at k base size ≡ base → (u : Bool) → ltb (seek n at k (looked at k base size) (size / 2)) (looked at k base size + size / 2) ≡ u → (size ≡ 0 → ⊥)
              → eqb (base + (size - 1) / 2) (seek n at k (looked at k base size) (size / 2)) || any (is (seek n at k (looked at k base size) (size / 2))) (looks n at k (looked at k base size) (size / 2)) ≡ true
          inner l true q z = or_later (eqb (base + (size - 1) / 2) (seek n at k (looked at k base size) (size / 2))) _ (r (looked at k base size) (omega arith) (ltb-true _ _ q))
          inner l false q z =
              let x = ltb-false (seek n at k (looked at k base size) (size / 2)) (looked at k base size + size / 2) q in
              let y = (seek-ends at k n (looked at k base size) (size / 2)).1 in
              let end : seek n at k (looked at k base size) (size / 2) ≡ looked at k base size + size / 2 = omega arith in
              end_case l z end (eqb (base + (size - 1) / 2) (seek n at k (looked at k base size) (size / 2))) refl
            where
              end_case : looked at k base size ≡ base → (size ≡ 0 → ⊥) → seek n at k (looked at k base size) (size / 2) ≡ looked at k base size + size / 2
                  → (t : Bool) → eqb (base + (size - 1) / 2) (seek n at k (looked at k base size) (size / 2)) ≡ t
                  → t || any (is (seek n at k (looked at k base size) (size / 2))) (looks n at k (looked at k base size) (size / 2)) ≡ true
              end_case l z end true p = refl
              end_case l z end false p =
                  let d = eqb-false (base + (size - 1) / 2) (seek n at k (looked at k base size) (size / 2)) p in
                  let some : 0 < size / 2 = omega arith in
                  let last = seek-last n (looked at k base size) (size / 2) some (omega arith) end in
                  let m : looked at k base size + size / 2 - 1 ≡ base + (size - 1) / 2 = omega arith in
                  let x : at (base + (size - 1) / 2) < k = (rw m at last) in
                  absurd (true≢false (sym (lt-ltb (at (base + (size - 1) / 2)) k x) ∙ w))

-- the answer follows from the keys at these places
looks_decide : (at bt : ℕ → ℕ) (k n base size : ℕ) → ((i : ℕ) → any (is i) (looks n at k base size) ≡ true → at i ≡ bt i) → seek n at k base size ≡ seek n bt k base size
looks_decide at bt k zero base size same = seek_zero at k base size ∙ sym (seek_zero bt k base size)
looks_decide at bt k (suc n) base size same = go (eqb size 0) refl (λ b s. looks_decide at bt k n b s)
  where
    go : (v : Bool) → eqb size 0 ≡ v → ((b s : ℕ) → ((i : ℕ) → any (is i) (looks n at k b s) ≡ true → at i ≡ bt i) → seek n at k b s ≡ seek n bt k b s)
        → seek (suc n) at k base size ≡ seek (suc n) bt k base size
    go true e r = let z = eqb-true size 0 e in seek-none at k (suc n) base size z ∙ sym (seek-none bt k (suc n) base size z)
    go false e r =
        let z = eqb-false size 0 e in
        let mid : at (base + (size - 1) / 2) ≡ bt (base + (size - 1) / 2) = same (base + (size - 1) / 2) (rw (e, eq-eqb (base + (size - 1) / 2) (base + (size - 1) / 2) refl)) in
        let q : looked at k base size ≡ looked bt k base size =
        looked_some at k base size z ∙ ap (λ (x : ℕ). cond (ltb x k) (base + (size - 1) / 2 + 1) base) mid ∙ sym (looked_some bt k base size z) in
        seek_look at k n base size
        ∙ r (looked at k base size) (size / 2) (λ i h. same i (in_later (eqb size 0) e (base + (size - 1) / 2) (looks n at k (looked at k base size) (size / 2)) i h))
        ∙ ap (λ (b : ℕ). seek n bt k b (size / 2)) q
        ∙ sym (seek_look bt k n base size)

-- NINE LOOKS, of any 256 rows
pub record Nine (k : ℕ) (l : List Row) : Type 0 where
  pub few : length (looks 9 (key_at l) k 0 (length l)) ≤ 9
  pub decide : (m : List Row) → length m ≡ length l → ((i : ℕ) → any (is i) (looks 9 (key_at l) k 0 (length l)) ≡ true → key_at l i ≡ key_at m i) → place_in k l ≡ place_in k m
  pub ends : place_in k l < length l → any (is (place_in k l)) (looks 9 (key_at l) k 0 (length l)) ≡ true

pub nine : (k : ℕ) (l : List Row) → length l ≤ 256 → Nine k l
nine k l h = record {
  few = looks_few (key_at l) k 9 0 (length l);
  decide = λ m e same. looks_decide (key_at l) (key_at m) k 9 0 (length l) same ∙ ap (λ (n : ℕ). seek 9 (key_at m) k 0 n) (sym e);
  ends = λ b. ends-looked (key_at l) k 9 0 (length l) (omega arith) (omega arith);
}
