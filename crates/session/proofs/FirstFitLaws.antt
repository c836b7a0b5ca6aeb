-- The laws of the layout before, first fit: what is found after each of its operations, and that no key stands twice. Assumes nothing.
use mathlib.Core.Path.{◌≡◌, refl, sym, ◌∙◌}
use mathlib.Core.List.{List}
use mathlib.Core.Bool.{Bool, true, false, cond, ◌||◌, ◌&&◌, true≢false, false≢true}
use Prim.Native.Nat.{ℕ, ◌+◌, ◌≤◌}
use native.Mathlib.Omega.{arith}
use lib.ListN.{length}
use lib.Dec.{eqb}
use borrow.Author.Tests.{eq-eqb, ne_eqb, eqb-true, eqb-false}
use Rattle.wire.specs.Lists.{any, tally, replace_first, change}
use Rattle.session.specs.History.{unannounced}
use Rattle.session.specs.FirstFit.{Row, key_is, is_free, found_in, lookup_in, free_row, common_row, dropped, released, put_row}
use Rattle.catalog.proofs.Counting.{none-tally, swap_tally}
use Rattle.catalog.proofs.Firsts.{first_swap_other, first_swap_new, first_swap_same, first-change, tally-change, change-length, swap_length, first_never, tally_never, first_or, tally_or}

-- 256 rows, in which no key stands twice; a key's OID is not 0, since such a row is free
pub record Table (l : List Row) : Type 0 where
  pub room : length l ≡ 256
  pub once : (t o : ℕ) → (o ≡ 0 → ⊥) → tally (key_is t o) l ≤ 1

and_false : (b : Bool) → b && false ≡ false
and_false true = refl
and_false false = refl

pub free_row_lem : (t o : ℕ) → (o ≡ 0 → ⊥) → key_is t o free_row ≡ false
free_row_lem t o z = rw (ne_eqb 0 o (λ e. z (sym e))) (and_false (eqb 0 t))

-- A ROW IS PUT

module _ (r : Row) (l : List Row) where
  abbrev mine : Row → Bool
  mine = key_is r.holder r.oid

  mine_is : mine r ≡ true
  mine_is = rw (eq-eqb r.holder r.holder refl, eq-eqb r.oid r.oid refl)

  -- a row of the key answers every test of a key as r does
  mine_key : (t o : ℕ) (b : Row) → mine b ≡ true → key_is t o b ≡ key_is t o r
  mine_key t o b e = go (eqb b.holder r.holder) (eqb b.oid r.oid) refl refl
    where
      go : (u v : Bool) → eqb b.holder r.holder ≡ u → eqb b.oid r.oid ≡ v → key_is t o b ≡ key_is t o r
      go true true w w' = rw (eqb-true b.holder r.holder w, eqb-true b.oid r.oid w')
      go true false w w' = absurd (false≢true (rw (w, w') at e))
      go false v w w' = absurd (false≢true (rw w at e))

  free_key : (t o : ℕ) (b : Row) → (o ≡ 0 → ⊥) → is_free b ≡ true → key_is t o b ≡ false
  free_key t o b z e = rw (eqb-true b.oid 0 e, ne_eqb 0 o (λ x. z (sym x))) (and_false (eqb b.holder t))

  -- the only key whose test r passes is its own
  own_key : (t o : ℕ) → key_is t o r ≡ true → (r.holder ≡ t) × (r.oid ≡ o)
  own_key t o e = go (eqb r.holder t) (eqb r.oid o) refl refl
    where
      go : (u v : Bool) → eqb r.holder t ≡ u → eqb r.oid o ≡ v → (r.holder ≡ t) × (r.oid ≡ o)
      go true true w w' = (eqb-true r.holder t w, eqb-true r.oid o w')
      go true false w w' = absurd (false≢true (rw (w, w') at e))
      go false v w w' = absurd (false≢true (rw w at e))

  module _ (free : any mine l ≡ false → any is_free l ≡ true) where
    pub put_found : (t o : ℕ) → (o ≡ 0 → ⊥) → lookup_in (key_is t o) (put_row r l) ≡ cond (key_is t o r) (found_in r) (lookup_in (key_is t o) l)
    put_found t o z = go (any mine l) (key_is t o r) refl refl
      where
        go : (u v : Bool) → any mine l ≡ u → key_is t o r ≡ v → lookup_in (key_is t o) (put_row r l) ≡ cond (key_is t o r) (found_in r) (lookup_in (key_is t o) l)
        go true true e w = let k = own_key t o w in rw (e, w) (rw (← k.0, ← k.1) (first_swap_same found_in unannounced mine r l e mine_is))
        go true false e w = rw (e, w) (first_swap_other found_in unannounced mine (key_is t o) r l (λ b m. mine_key t o b m ∙ w) w)
        go false true e w = let k = own_key t o w in rw (e, w) (rw (← k.0, ← k.1) (first_swap_new found_in unannounced is_free mine r l (free e) e mine_is))
        go false false e w = rw (e, w) (first_swap_other found_in unannounced is_free (key_is t o) r l (λ b m. free_key t o b z m) w)

    pub put-table : Table l → Table (put_row r l)
    put-table a = record { room = size (any mine l); once = λ t o z. count t o z (any mine l) (key_is t o r) refl refl }
      where
        size : (v : Bool) → length (cond v (replace_first mine r l) (replace_first is_free r l)) ≡ 256
        size true = swap_length mine r l ∙ a.room
        size false = swap_length is_free r l ∙ a.room

        count : (t o : ℕ) → (o ≡ 0 → ⊥) → (u v : Bool) → any mine l ≡ u → key_is t o r ≡ v → tally (key_is t o) (put_row r l) ≤ 1
        count t o z true v e w =
            let n = a.once t o z in
            let m = swap_tally mine (key_is t o) (key_is t o r) r l (λ b m. mine_key t o b m) e in
            rw e (omega arith)
        count t o z false true e w =
            let k = own_key t o w in
            let n : tally (key_is t o) l ≡ 0 = none-tally (key_is t o) l (rw (← k.0, ← k.1) e) in
            let m = swap_tally is_free (key_is t o) false r l (λ b m. free_key t o b z m) (free e) in
            let m' : tally (key_is t o) (replace_first is_free r l) + 0 ≡ tally (key_is t o) l + 1 = rw w at m in
            rw e (omega arith)
        count t o z false false e w =
            let n = a.once t o z in
            let m = swap_tally is_free (key_is t o) false r l (λ b m. free_key t o b z m) (free e) in
            let m' : tally (key_is t o) (replace_first is_free r l) + 0 ≡ tally (key_is t o) l + 0 = rw w at m in
            rw e (omega arith)

-- EACH ROW IS CHANGED

-- how a change of each row treats a key: its test is then what `was` was, and those rows keep what is found in them
pub record Becomes (f : Row → Row) (t o : ℕ) (was : Row → Bool) : Type 0 where
  pub test : (b : Row) → key_is t o (f b) ≡ was b
  pub same : (b : Row) → was b ≡ true → found_in (f b) ≡ found_in b

module _ (f : Row → Row) (t o : ℕ) (l : List Row) where
  becomes_found : (was : Row → Bool) → Becomes f t o was → lookup_in (key_is t o) (change f l) ≡ lookup_in was l
  becomes_found was k = first-change found_in unannounced f (key_is t o) was k.test l k.same

  becomes_tally : (was : Row → Bool) → Becomes f t o was → tally (key_is t o) (change f l) ≡ tally was l
  becomes_tally was k = tally-change f (key_is t o) was k.test l

  -- no row has the key then
  gone : ((b : Row) → key_is t o (f b) ≡ false) → Becomes f t o (λ b. false)
  gone none = record { test = none; same = λ b e. absurd (false≢true e) }

-- THE ROWS OF A HOLDER ARE DROPPED

module _ (x : ℕ) (l : List Row) where
  drop_own : (t o : ℕ) → (o ≡ 0 → ⊥) → eqb x t ≡ true → (b : Row) → key_is t o (dropped x b) ≡ false
  drop_own t o z e b = go (eqb b.holder x) refl
    where
      go : (v : Bool) → eqb b.holder x ≡ v → key_is t o (dropped x b) ≡ false
      go true w = rw w (free_row_lem t o z)
      go false w = rw (w, ← eqb-true x t e, w)

  drop_other : (t o : ℕ) → (o ≡ 0 → ⊥) → eqb x t ≡ false → Becomes (dropped x) t o (key_is t o)
  drop_other t o z e = record { test = λ b. test b (eqb b.holder x) refl; same = λ b m. same b m (eqb b.holder x) refl }
    where
      test : (b : Row) (v : Bool) → eqb b.holder x ≡ v → key_is t o (dropped x b) ≡ key_is t o b
      test b true w = rw w (free_row_lem t o z ∙ sym (rw (eqb-true b.holder x w, e)))
      test b false w = rw w

      same : (b : Row) → key_is t o b ≡ true → (v : Bool) → eqb b.holder x ≡ v → found_in (dropped x b) ≡ found_in b
      same b m true w = absurd (false≢true (rw (eqb-true b.holder x w, e) at m))
      same b m false w = rw w

  pub drop_found : (t o : ℕ) → (o ≡ 0 → ⊥) → lookup_in (key_is t o) (change (dropped x) l) ≡ cond (eqb x t) unannounced (lookup_in (key_is t o) l)
  drop_found t o z = go (eqb x t) refl
    where
      go : (v : Bool) → eqb x t ≡ v → lookup_in (key_is t o) (change (dropped x) l) ≡ cond v unannounced (lookup_in (key_is t o) l)
      go true e = becomes_found (dropped x) t o l (λ b. false) (gone (dropped x) t o l (drop_own t o z e)) ∙ first_never found_in unannounced l
      go false e = becomes_found (dropped x) t o l (key_is t o) (drop_other t o z e)

  pub drop-table : Table l → Table (change (dropped x) l)
  drop-table a = record { room = change-length (dropped x) l ∙ a.room; once = λ t o z. count t o z (eqb x t) refl }
    where
      count : (t o : ℕ) → (o ≡ 0 → ⊥) → (v : Bool) → eqb x t ≡ v → tally (key_is t o) (change (dropped x) l) ≤ 1
      count t o z true e = rw (becomes_tally (dropped x) t o l (λ b. false) (gone (dropped x) t o l (drop_own t o z e)), tally_never l) (omega arith)
      count t o z false e = rw (becomes_tally (dropped x) t o l (key_is t o) (drop_other t o z e)) (a.once t o z)

-- THE ROWS OF A HOLDER BECOME COMMON, and take the places of the common ones of their OIDs

module _ (x : ℕ) (l : List Row) (nz : x ≡ 0 → ⊥) where
  abbrev goes : Row → Bool
  goes b = eqb b.holder 0 && any (key_is x b.oid) l

  x_not_zero : eqb x 0 ≡ false
  x_not_zero = ne_eqb x 0 nz

  zero_not_x : eqb 0 x ≡ false
  zero_not_x = ne_eqb 0 x (λ e. nz (sym e))

  goes-holder : (b : Row) → goes b ≡ true → b.holder ≡ 0
  goes-holder b e = go (eqb b.holder 0) refl
    where
      go : (v : Bool) → eqb b.holder 0 ≡ v → b.holder ≡ 0
      go true w = eqb-true b.holder 0 w
      go false w = absurd (false≢true (rw w at e))

  goes-any : (b : Row) → goes b ≡ true → any (key_is x b.oid) l ≡ true
  goes-any b e = rw (eq-eqb b.holder 0 (goes-holder b e)) at e

  -- what a row becomes
  cases : (P : Row → Type 0) (b : Row) → (eqb b.holder x ≡ true → P (common_row b)) → (eqb b.holder x ≡ false → goes b ≡ true → P free_row)
      → (eqb b.holder x ≡ false → goes b ≡ false → P b) → P (released x l b)
  cases P b own old rest = go (eqb b.holder x) (goes b) refl refl
    where
      go : (u v : Bool) → eqb b.holder x ≡ u → goes b ≡ v → P (cond u (common_row b) (cond v free_row b))
      go true v w w' = own w
      go false true w w' = old w w'
      go false false w w' = rest w w'

  own_gone : (o : ℕ) → (o ≡ 0 → ⊥) → (b : Row) → key_is x o (released x l b) ≡ false
  own_gone o z b = cases (λ c. key_is x o c ≡ false) b (λ w. rw zero_not_x) (λ w w'. free_row_lem x o z) (λ w w'. rw w)

  other_becomes : (t o : ℕ) → (o ≡ 0 → ⊥) → eqb t 0 ≡ false → eqb x t ≡ false → Becomes (released x l) t o (key_is t o)
  other_becomes t o z e0 ex = record {
    test = λ b. cases (λ c. key_is t o c ≡ key_is t o b) b (λ w. rw zt (sym (rw (eqb-true b.holder x w, ex)))) (λ w w'. free_row_lem t o z ∙ sym (rw (goes-holder b w', zt))) (λ w w'. refl);
    same = λ b m. cases (λ c. found_in c ≡ found_in b) b (λ w. refl) (λ w w'. absurd (false≢true (rw (goes-holder b w', zt) at m))) (λ w w'. refl);
  }
    where
      zt : eqb 0 t ≡ false
      zt = ne_eqb 0 t (λ k. eqb-false t 0 e0 (sym k))

  -- common, where x has the OID: x's
  common_becomes : (o : ℕ) → (o ≡ 0 → ⊥) → any (key_is x o) l ≡ true → Becomes (released x l) 0 o (key_is x o)
  common_becomes o z has = record {
    test = λ b. cases (λ c. key_is 0 o c ≡ key_is x o b) b (λ w. rw w) (λ w w'. free_row_lem 0 o z ∙ sym (rw w)) (λ w w'. old b w w' (eqb b.holder 0) (eqb b.oid o) refl refl);
    same = λ b m. cases (λ c. found_in c ≡ found_in b) b (λ w. refl) (λ w w'. absurd (false≢true (rw w at m))) (λ w w'. refl);
  }
    where
      old : (b : Row) → eqb b.holder x ≡ false → goes b ≡ false → (y k : Bool) → eqb b.holder 0 ≡ y → eqb b.oid o ≡ k → key_is 0 o b ≡ key_is x o b
      old b w w' true true wy wk = absurd (true≢false (sym has ∙ (rw (wy, eqb-true b.oid o wk) at w')))
      old b w w' true false wy wk = rw (w, wk) (and_false (eqb b.holder 0))
      old b w w' false k wy wk = rw (w, wy)

  -- common, where x has none: as before
  kept_becomes : (o : ℕ) → (o ≡ 0 → ⊥) → any (key_is x o) l ≡ false → Becomes (released x l) 0 o (λ b. key_is 0 o b || key_is x o b)
  kept_becomes o z none = record {
    test = λ b. cases (λ c. key_is 0 o c ≡ key_is 0 o b || key_is x o b) b (λ w. rw (w, eqb-true b.holder x w, x_not_zero)) (λ w w'. freed_key b w w' (eqb b.oid o) refl) (λ w w'. rw w (or_false (key_is 0 o b)));
    same = λ b m. cases (λ c. found_in c ≡ found_in b) b (λ w. refl) (λ w w'. absurd (true≢false (sym m ∙ sym (freed_key b w w' (eqb b.oid o) refl) ∙ free_row_lem 0 o z))) (λ w w'. refl);
  }
    where
      or_false : (v : Bool) → v ≡ v || false
      or_false true = refl
      or_false false = refl

      freed_key : (b : Row) → eqb b.holder x ≡ false → goes b ≡ true → (k : Bool) → eqb b.oid o ≡ k → key_is 0 o free_row ≡ key_is 0 o b || key_is x o b
      freed_key b w w' true wk = absurd (true≢false (sym (goes-any b w') ∙ rw (eqb-true b.oid o wk) none))
      freed_key b w w' false wk = rw (free_row_lem 0 o z, w, wk, and_false (eqb b.holder 0))

  pub release-own : (o : ℕ) → (o ≡ 0 → ⊥) → lookup_in (key_is x o) (change (released x l) l) ≡ unannounced
  release-own o z = becomes_found (released x l) x o l (λ b. false) (gone (released x l) x o l (own_gone o z)) ∙ first_never found_in unannounced l

  pub release_other : (t o : ℕ) → (o ≡ 0 → ⊥) → eqb t 0 ≡ false → eqb x t ≡ false → lookup_in (key_is t o) (change (released x l) l) ≡ lookup_in (key_is t o) l
  release_other t o z e0 ex = becomes_found (released x l) t o l (key_is t o) (other_becomes t o z e0 ex)

  pub release-common : (o : ℕ) → (o ≡ 0 → ⊥) → any (key_is x o) l ≡ true → lookup_in (key_is 0 o) (change (released x l) l) ≡ lookup_in (key_is x o) l
  release-common o z has = becomes_found (released x l) 0 o l (key_is x o) (common_becomes o z has)

  pub release-kept : (o : ℕ) → (o ≡ 0 → ⊥) → any (key_is x o) l ≡ false → lookup_in (key_is 0 o) (change (released x l) l) ≡ lookup_in (key_is 0 o) l
  release-kept o z none =
      becomes_found (released x l) 0 o l (λ b. key_is 0 o b || key_is x o b) (kept_becomes o z none) ∙ first_or (key_is 0 o) (key_is x o) found_in unannounced l none

  pub release-table : Table l → Table (change (released x l) l)
  release-table a = record { room = change-length (released x l) l ∙ a.room; once = λ t o z. count t o z (eqb t 0) (eqb x t) refl refl }
    where
      common : (o : ℕ) → (o ≡ 0 → ⊥) → (v : Bool) → any (key_is x o) l ≡ v → tally (key_is 0 o) (change (released x l) l) ≤ 1
      common o z true e = rw (becomes_tally (released x l) 0 o l (key_is x o) (common_becomes o z e)) (a.once x o z)
      common o z false e =
          rw (becomes_tally (released x l) 0 o l (λ b. key_is 0 o b || key_is x o b) (kept_becomes o z e), tally_or (key_is 0 o) (key_is x o) l e) (a.once 0 o z)

      count : (t o : ℕ) → (o ≡ 0 → ⊥) → (u v : Bool) → eqb t 0 ≡ u → eqb x t ≡ v → tally (key_is t o) (change (released x l) l) ≤ 1
      count t o z true v e0 ex = rw (eqb-true t 0 e0) (common o z (any (key_is x o) l) refl)
      count t o z false true e0 ex =
          rw (← eqb-true x t ex, becomes_tally (released x l) x o l (λ b. false) (gone (released x l) x o l (own_gone o z)), tally_never l) (omega arith)
      count t o z false false e0 ex = rw (becomes_tally (released x l) t o l (key_is t o) (other_becomes t o z e0 ex)) (a.once t o z)
