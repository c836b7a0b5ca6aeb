-- What a search finds in sorted rows, and what putting a row makes of them. Assumes nothing.
use mathlib.Core.Path.{◌≡◌, refl, sym, ◌∙◌, ap}
use mathlib.Core.List.{List, [], ◌∷◌}
use mathlib.Core.Bool.{Bool, true, false, cond, not, ◌||◌, true≢false, false≢true}
use Prim.Native.Nat.{ℕ, zero, suc, ◌+◌, ◌/◌, ◌%◌, ◌≤◌, ◌<◌}
use native.Mathlib.Omega.{arith}
use lib.Dec.{eqb, ltb, leb, leb-suc-suc}
use lib.ListN.{length, get_or, set}
use borrow.Author.Tests.{ltb-true, ltb-false, leb-true, leb-false, eqb-true, eqb-false, eq-eqb, ne_eqb, lt-ltb, le-ltb, le-leb, lt-leb}
use Rattle.std.specs.Prelude.{Option}
use Rattle.catalog.specs.declared.announcements.Announcement.{Announcement}
use Rattle.std.specs.Prelude.{None}
use Rattle.wire.specs.Lists.{any, tally, keep, change, index_of}
use Rattle.catalog.specs.declared.rows.Row.{Row}
use Rattle.catalog.specs.Table.{no_row, key_at, place_in, is_at, found_in, seen_in, has_in, is_full, insert_at, put_row, put_all, held_by, dropped, common_row, Above, Sorted, key_is, lookup_in, key_of, Small}
use Rattle.catalog.proofs.Seek.{seek_finds}
use Rattle.catalog.proofs.Searches.{index_most}

abbrev not_below : ℕ → Row → Bool
not_below k r = leb k r.key

-- THE PLACE OF A KEY

module _ (k : ℕ) where
  before : (l : List Row) (i : ℕ) → i < index_of (not_below k) l → key_at l i < k
  before [] i h = absurd (omega (arith, h))
  before (a ∷ l) i h = go (leb k a.key) refl i h (before l)
    where
      go : (v : Bool) → leb k a.key ≡ v → (i : ℕ) → i < cond v 0 (suc (index_of (not_below k) l)) → ((i : ℕ) → i < index_of (not_below k) l → key_at l i < k) → key_at (a ∷ l) i < k
      go true e i h r = absurd (omega (arith, h))
      go false e zero h r = leb-false k a.key e
      go false e (suc i) h r = r i (omega (arith, h))

  -- a key behind others that are no smaller
  above_at : (j : ℕ) (l : List Row) → Above j l → (i : ℕ) → i < length l → j < key_at l i
  above_at j [] s i h = absurd (omega (arith, h))
  above_at j (a ∷ l) s zero h = s.0
  above_at j (a ∷ l) s (suc i) h = above_at j l s.1 i (omega (arith, h))

  behind : (l : List Row) → Sorted l → (i : ℕ) → index_of (not_below k) l ≤ i → i < length l → k ≤ key_at l i
  behind [] s i h b = absurd (omega (arith, b))
  behind (a ∷ l) s i h b = go (leb k a.key) refl i h b (behind l s.1)
    where
      go : (v : Bool) → leb k a.key ≡ v → (i : ℕ) → cond v 0 (suc (index_of (not_below k) l)) ≤ i → i < suc (length l)
          → ((i : ℕ) → index_of (not_below k) l ≤ i → i < length l → k ≤ key_at l i) → k ≤ key_at (a ∷ l) i
      go true e zero h b r = leb-true k a.key e
      go true e (suc i) h b r = omega (arith, leb-true k a.key e, above_at a.key l s.0 i (omega (arith, b)))
      go false e zero h b r = absurd (omega (arith, h))
      go false e (suc i) h b r = r i (omega (arith, h)) (omega (arith, b))

  pub place_is : (l : List Row) → Sorted l → length l ≤ 256 → place_in k l ≡ index_of (not_below k) l
  place_is l s n =
      seek_finds (key_at l) k (index_of (not_below k) l) 9 0 (length l) (omega arith) (omega arith) (omega (arith, index_most (not_below k) l))
      (before l) (λ i h b. behind l s i h (omega (arith, b)))

  -- WHAT IS FOUND

  above_none : (j : ℕ) (l : List Row) → k ≤ j → Above j l → any (key_is k) l ≡ false
  above_none j [] h s = refl
  above_none j (a ∷ l) h s = rw (ne_eqb a.key k (λ e. omega (arith, e, s.0))) (above_none j l h s.1)

  none_found : (l : List Row) → any (key_is k) l ≡ false → lookup_in (key_is k) l ≡ None
  none_found [] e = refl
  none_found (a ∷ l) e = go (eqb a.key k) refl (none_found l)
    where
      go : (v : Bool) → eqb a.key k ≡ v → (any (key_is k) l ≡ false → lookup_in (key_is k) l ≡ None) → lookup_in (key_is k) (a ∷ l) ≡ None
      go true w r = absurd (true≢false (rw w at e))
      go false w r = rw w (r (rw w at e))

  -- a test of the row at a place, one further
  at-later : (i : ℕ) (a : Row) (l : List Row) → is_at k (suc i) (a ∷ l) ≡ is_at k i l
  at-later i a l = rw (leb-suc-suc (suc i) (length l))

  at_first : (a : Row) (l : List Row) → is_at k 0 (a ∷ l) ≡ eqb a.key k
  at_first a l = rw (lt-ltb 0 (suc (length l)) (omega arith))

  -- the three ways in which a key stands to another
  three : (P : Type 0) (a : ℕ) → (a < k → P) → (a ≡ k → P) → (k < a → P) → P
  three P a x y z = go (ltb a k) (eqb a k) refl refl
    where
      go : (u v : Bool) → ltb a k ≡ u → eqb a k ≡ v → P
      go true v e f = x (ltb-true a k e)
      go false true e f = y (eqb-true a k f)
      go false false e f = z (let p = ltb-false a k e in let q = eqb-false a k f in omega arith)

  has_is : (l : List Row) → Sorted l → is_at k (index_of (not_below k) l) l ≡ any (key_is k) l
  has_is [] s = refl
  has_is (a ∷ l) s = go (has_is l s.1)
    where
      go : is_at k (index_of (not_below k) l) l ≡ any (key_is k) l → is_at k (index_of (not_below k) (a ∷ l)) (a ∷ l) ≡ any (key_is k) (a ∷ l)
      go r = three _ a.key
          (λ h. rw (lt-leb k a.key h, ne_eqb a.key k (λ e. omega (arith, e, h)), at-later (index_of (not_below k) l) a l) r)
          (λ h. rw (le-leb k a.key (omega (arith, h)), at_first a l, eq-eqb a.key k h))
          (λ h. rw (le-leb k a.key (omega (arith, h)), at_first a l, ne_eqb a.key k (λ e. omega (arith, e, h))) (sym (above_none a.key l (omega (arith, h)) s.0)))

  seen_is : (l : List Row) → Sorted l → cond (is_at k (index_of (not_below k) l) l) (found_in (get_or l (index_of (not_below k) l) no_row)) None ≡ lookup_in (key_is k) l
  seen_is [] s = refl
  seen_is (a ∷ l) s = go (seen_is l s.1)
    where
      go : cond (is_at k (index_of (not_below k) l) l) (found_in (get_or l (index_of (not_below k) l) no_row)) None ≡ lookup_in (key_is k) l
          → cond (is_at k (index_of (not_below k) (a ∷ l)) (a ∷ l)) (found_in (get_or (a ∷ l) (index_of (not_below k) (a ∷ l)) no_row)) None ≡ lookup_in (key_is k) (a ∷ l)
      go r = three _ a.key
          (λ h. rw (lt-leb k a.key h, ne_eqb a.key k (λ e. omega (arith, e, h)), at-later (index_of (not_below k) l) a l) r)
          (λ h. rw (le-leb k a.key (omega (arith, h)), at_first a l, eq-eqb a.key k h))
          (λ h. rw (le-leb k a.key (omega (arith, h)), at_first a l, ne_eqb a.key k (λ e. omega (arith, e, h))) (sym (none_found l (above_none a.key l (omega (arith, h)) s.0))))

  pub has_any : (l : List Row) → Sorted l → length l ≤ 256 → has_in k l ≡ any (key_is k) l
  has_any l s n = rw (place_is l s n) (has_is l s)

  pub seen_first : (l : List Row) → Sorted l → length l ≤ 256 → seen_in k l ≡ lookup_in (key_is k) l
  seen_first l s n = rw (place_is l s n) (seen_is l s)

  -- a key stands once
  above_tally : (j : ℕ) (l : List Row) → k ≤ j → Above j l → tally (key_is k) l ≡ 0
  above_tally j [] h s = refl
  above_tally j (a ∷ l) h s = let r = above_tally j l h s.1 in rw (ne_eqb a.key k (λ e. omega (arith, e, s.0))) (omega arith)

  pub sorted_once : (l : List Row) → Sorted l → tally (key_is k) l ≤ 1
  sorted_once [] s = omega arith
  sorted_once (a ∷ l) s = go (eqb a.key k) refl (sorted_once l s.1)
    where
      go : (v : Bool) → eqb a.key k ≡ v → tally (key_is k) l ≤ 1 → cond v 1 0 + tally (key_is k) l ≤ 1
      go true e r = rw (above_tally a.key l (omega (arith, eqb-true a.key k e)) s.0) (omega arith)
      go false e r = omega arith

-- A ROW IS PUT

-- by going through the rows
abbrev pub insert_key : Row → List Row → List Row
insert_key r [] = r ∷ []
insert_key r (a ∷ l) = cond (ltb a.key r.key) (a ∷ insert_key r l) (cond (eqb a.key r.key) (r ∷ l) (r ∷ a ∷ l))

module _ (r : Row) where
  insert-is : (l : List Row)
      → cond (is_at r.key (index_of (not_below r.key) l) l) (set l (index_of (not_below r.key) l) r) (insert_at (index_of (not_below r.key) l) r l) ≡ insert_key r l
  insert-is [] = refl
  insert-is (a ∷ l) = go (insert-is l)
    where
      later : (v : Bool) (i : ℕ) → cond v (set (a ∷ l) (suc i) r) (insert_at (suc i) r (a ∷ l)) ≡ a ∷ cond v (set l i r) (insert_at i r l)
      later true i = refl
      later false i = refl

      go : cond (is_at r.key (index_of (not_below r.key) l) l) (set l (index_of (not_below r.key) l) r) (insert_at (index_of (not_below r.key) l) r l) ≡ insert_key r l
          → cond (is_at r.key (index_of (not_below r.key) (a ∷ l)) (a ∷ l)) (set (a ∷ l) (index_of (not_below r.key) (a ∷ l)) r) (insert_at (index_of (not_below r.key) (a ∷ l)) r (a ∷ l)) ≡ insert_key r (a ∷ l)
      go w = three r.key _ a.key
          (λ h. rw (lt-leb r.key a.key h, lt-ltb a.key r.key h, at-later r.key (index_of (not_below r.key) l) a l) (later (is_at r.key (index_of (not_below r.key) l) l) (index_of (not_below r.key) l) ∙ ap (λ (m : List Row). a ∷ m) w))
          (λ h. rw (le-leb r.key a.key (omega (arith, h)), le-ltb a.key r.key (omega (arith, h)), at_first r.key a l, eq-eqb a.key r.key h))
          (λ h. rw (le-leb r.key a.key (omega (arith, h)), le-ltb a.key r.key (omega (arith, h)), at_first r.key a l, ne_eqb a.key r.key (λ e. omega (arith, e, h))))

  insert_found : (k : ℕ) (l : List Row) → lookup_in (key_is k) (insert_key r l) ≡ cond (eqb r.key k) (found_in r) (lookup_in (key_is k) l)
  insert_found k [] = refl
  insert_found k (a ∷ l) = go (insert_found k l) (eqb r.key k) refl
    where
      go : lookup_in (key_is k) (insert_key r l) ≡ cond (eqb r.key k) (found_in r) (lookup_in (key_is k) l) → (v : Bool) → eqb r.key k ≡ v
          → lookup_in (key_is k) (insert_key r (a ∷ l)) ≡ cond v (found_in r) (lookup_in (key_is k) (a ∷ l))
      go w true e = let z = eqb-true r.key k e in three r.key _ a.key
          (λ h. rw (lt-ltb a.key r.key h, ne_eqb a.key k (λ x. omega arith), w, e))
          (λ h. rw (le-ltb a.key r.key (omega (arith, h)), eq-eqb a.key r.key h, e))
          (λ h. rw (le-ltb a.key r.key (omega (arith, h)), ne_eqb a.key r.key (λ x. omega arith), e))
      go w false e = let z = eqb-false r.key k e in three r.key _ a.key
          (λ h. rw (lt-ltb a.key r.key h, w, e))
          (λ h. rw (le-ltb a.key r.key (omega (arith, h)), eq-eqb a.key r.key h, e, ne_eqb a.key k (λ x. z (sym h ∙ x))))
          (λ h. rw (le-ltb a.key r.key (omega (arith, h)), ne_eqb a.key r.key (λ x. omega arith), e))

  insert_above : (j : ℕ) (l : List Row) → j < r.key → Above j l → Above j (insert_key r l)
  insert_above j [] h s = (h, tt)
  insert_above j (a ∷ l) h s = go (ltb a.key r.key) (eqb a.key r.key) (insert_above j l h s.1)
    where
      go : (u v : Bool) → Above j (insert_key r l) → Above j (cond u (a ∷ insert_key r l) (cond v (r ∷ l) (r ∷ a ∷ l)))
      go true v w = (s.0, w)
      go false true w = (h, s.1)
      go false false w = (h, s)

  above_less : (i j : ℕ) (l : List Row) → i ≤ j → Above j l → Above i l
  above_less i j [] h s = tt
  above_less i j (a ∷ l) h s = (omega (arith, h, s.0), above_less i j l h s.1)

  insert-sorted : (l : List Row) → Sorted l → Sorted (insert_key r l)
  insert-sorted [] s = (tt, tt)
  insert-sorted (a ∷ l) s = go (ltb a.key r.key) (eqb a.key r.key) refl refl (insert-sorted l s.1)
    where
      go : (u v : Bool) → ltb a.key r.key ≡ u → eqb a.key r.key ≡ v → Sorted (insert_key r l) → Sorted (cond u (a ∷ insert_key r l) (cond v (r ∷ l) (r ∷ a ∷ l)))
      go true v e f w = (insert_above a.key l (ltb-true a.key r.key e) s.0, w)
      go false true e f w = (above_less r.key a.key l (omega (arith, eqb-true a.key r.key f)) s.0, s.1)
      go false false e f w =
          let q : r.key < a.key = let x = ltb-false a.key r.key e in let y = eqb-false a.key r.key f in omega arith in
          ((q, above_less r.key a.key l (omega arith) s.0), s)

  insert-length : (l : List Row) → length (insert_key r l) ≤ suc (length l)
  insert-length [] = omega arith
  insert-length (a ∷ l) = go (ltb a.key r.key) (eqb a.key r.key) (insert-length l)
    where
      go : (u v : Bool) → length (insert_key r l) ≤ suc (length l) → length (cond u (a ∷ insert_key r l) (cond v (r ∷ l) (r ∷ a ∷ l))) ≤ suc (suc (length l))
      go true v w = omega arith
      go false true w = omega arith
      go false false w = omega arith

  insert_known : (l : List Row) → any (key_is r.key) l ≡ true → Sorted l → length (insert_key r l) ≡ length l
  insert_known [] h s = absurd (false≢true h)
  insert_known (a ∷ l) h s = go (insert_known l)
    where
      go : (any (key_is r.key) l ≡ true → Sorted l → length (insert_key r l) ≡ length l) → length (insert_key r (a ∷ l)) ≡ suc (length l)
      go w = three r.key _ a.key
          (λ q. rw (lt-ltb a.key r.key q) (ap suc (w (rw (ne_eqb a.key r.key (λ x. omega arith)) at h) s.1)))
          (λ q. rw (le-ltb a.key r.key (omega (arith, q)), eq-eqb a.key r.key q))
          (λ q. absurd (true≢false (sym h ∙ rw (ne_eqb a.key r.key (λ x. omega arith)) (above_none r.key a.key l (omega (arith, q)) s.0))))

  module _ (room : ℕ) (l : List Row) (s : Sorted l) (n : length l ≤ 256) (free : any (key_is r.key) l ≡ false → length l < room) where
    pub put_is : put_row room r l ≡ insert_key r l
    put_is = rw (place_is r.key l s n) (go (is_at r.key (index_of (not_below r.key) l) l) refl (insert-is l))
      where
        go : (v : Bool) → is_at r.key (index_of (not_below r.key) l) l ≡ v
            → cond (is_at r.key (index_of (not_below r.key) l) l) (set l (index_of (not_below r.key) l) r) (insert_at (index_of (not_below r.key) l) r l) ≡ insert_key r l
            → cond (is_at r.key (index_of (not_below r.key) l) l) (set l (index_of (not_below r.key) l) r) (cond (is_full room l) l (insert_at (index_of (not_below r.key) l) r l)) ≡ insert_key r l
        go true e w = rw e (rw e at w)
        go false e w = rw (e, lt-leb room (length l) (free (sym (has_is r.key l s) ∙ e))) (rw e at w)

    pub put_found : (k : ℕ) → lookup_in (key_is k) (put_row room r l) ≡ cond (eqb r.key k) (found_in r) (lookup_in (key_is k) l)
    put_found k = ap (lookup_in (key_is k)) put_is ∙ insert_found k l

    pub put-sorted : Sorted (put_row room r l)
    put-sorted = rw put_is (insert-sorted l s)

    pub put_most : length l ≤ room → length (put_row room r l) ≤ room
    put_most m = rw put_is (go (any (key_is r.key) l) refl)
      where
        go : (v : Bool) → any (key_is r.key) l ≡ v → length (insert_key r l) ≤ room
        go true e = rw (insert_known l e s) m
        go false e = omega (arith, insert-length l, free e)

    pub put_longer : length (put_row room r l) ≤ suc (length l)
    put_longer = rw put_is (insert-length l)

-- SEVERAL ARE PUT, no key twice

module _ (room : ℕ) (small : room ≤ 256) where
  pub all_sorted : (rs l : List Row) → Sorted l → length l + length rs ≤ room → Sorted (put_all room rs l) × (length (put_all room rs l) ≤ length l + length rs)
  all_sorted [] l s n = (s, omega arith)
  all_sorted (r ∷ rs) l s n =
      let m = put_longer r room l s (omega (arith, n, small)) (λ e. omega (arith, n)) in
      let w = all_sorted rs (put_row room r l) (put-sorted r room l s (omega (arith, n, small)) (λ e. omega (arith, n))) (omega (arith, n, m)) in
      (w.0, omega (arith, m, w.1))

  pub all_found : (k : ℕ) (rs l : List Row) → Sorted rs → Sorted l → length l + length rs ≤ room
      → lookup_in (key_is k) (put_all room rs l) ≡ cond (any (key_is k) rs) (lookup_in (key_is k) rs) (lookup_in (key_is k) l)
  all_found k [] l q s n = refl
  all_found k (r ∷ rs) l q s n =
      let m = put_longer r room l s (omega (arith, n, small)) (λ e. omega (arith, n)) in
      all_found k rs (put_row room r l) q.1 (put-sorted r room l s (omega (arith, n, small)) (λ e. omega (arith, n))) (omega (arith, n, m))
      ∙ ap (λ (x : Option Announcement). cond (any (key_is k) rs) (lookup_in (key_is k) rs) x) (put_found r room l s (omega (arith, n, small)) (λ e. omega (arith, n)) k)
      ∙ go (eqb r.key k) refl
    where
      go : (v : Bool) → eqb r.key k ≡ v → cond (any (key_is k) rs) (lookup_in (key_is k) rs) (cond (eqb r.key k) (found_in r) (lookup_in (key_is k) l))
          ≡ cond (eqb r.key k || any (key_is k) rs) (cond (eqb r.key k) (found_in r) (lookup_in (key_is k) rs)) (lookup_in (key_is k) l)
      go true e = rw (e, above_none k r.key rs (omega (arith, eqb-true r.key k e)) q.0)
      go false e = rw e

-- SOME ARE KEPT

module _ (p : Row → Bool) where
  keep_above : (j : ℕ) (l : List Row) → Above j l → Above j (keep p l)
  keep_above j [] s = tt
  keep_above j (a ∷ l) s = go (p a) (keep_above j l s.1)
    where
      go : (v : Bool) → Above j (keep p l) → Above j (cond v (a ∷ keep p l) (keep p l))
      go true w = (s.0, w)
      go false w = w

  pub keep-sorted : (l : List Row) → Sorted l → Sorted (keep p l)
  keep-sorted [] s = tt
  keep-sorted (a ∷ l) s = go (p a) (keep-sorted l s.1)
    where
      go : (v : Bool) → Sorted (keep p l) → Sorted (cond v (a ∷ keep p l) (keep p l))
      go true w = (keep_above a.key l s.0, w)
      go false w = w

  pub keep_most : (l : List Row) → length (keep p l) ≤ length l
  keep_most [] = omega arith
  keep_most (a ∷ l) = go (p a) (keep_most l)
    where
      go : (v : Bool) → length (keep p l) ≤ length l → length (cond v (a ∷ keep p l) (keep p l)) ≤ suc (length l)
      go true w = omega arith
      go false w = omega arith

-- of a holder and the others
pub keep_both : (p : Row → Bool) (l : List Row) → length (keep p l) + length (keep (λ r. not (p r)) l) ≡ length l
keep_both p [] = refl
keep_both p (a ∷ l) = go (p a) refl (keep_both p l)
  where
    go : (v : Bool) → p a ≡ v → length (keep p l) + length (keep (λ r. not (p r)) l) ≡ length l
        → length (cond (p a) (a ∷ keep p l) (keep p l)) + length (cond (not (p a)) (a ∷ keep (λ r. not (p r)) l) (keep (λ r. not (p r)) l)) ≡ suc (length l)
    go true e w = rw e (omega arith)
    go false e w = rw e (omega arith)

-- THE ROWS OF A HOLDER

module _ (x t o : ℕ) (small : Small o) where
  -- a key's holder
  key-held : (a : Row) → a.key ≡ key_of t o → a.key / 4294967296 ≡ t
  key-held a e = omega arith

  pub drop_own : (l : List Row) → x ≡ t → lookup_in (key_is (key_of t o)) (dropped x l) ≡ None
  drop_own [] e = refl
  drop_own (a ∷ l) e = go (eqb (a.key / 4294967296) x) (eqb a.key (key_of t o)) refl refl (drop_own l e)
    where
      go : (u v : Bool) → eqb (a.key / 4294967296) x ≡ u → eqb a.key (key_of t o) ≡ v → lookup_in (key_is (key_of t o)) (dropped x l) ≡ None
          → lookup_in (key_is (key_of t o)) (cond (not (eqb (a.key / 4294967296) x)) (a ∷ dropped x l) (dropped x l)) ≡ None
      go true v w w' r = rw w r
      go false true w w' r = absurd (eqb-false (a.key / 4294967296) x w (key-held a (eqb-true a.key (key_of t o) w') ∙ sym e))
      go false false w w' r = rw (w, w') r

  pub drop_other : (l : List Row) → (x ≡ t → ⊥) → lookup_in (key_is (key_of t o)) (dropped x l) ≡ lookup_in (key_is (key_of t o)) l
  drop_other [] e = refl
  drop_other (a ∷ l) e = go (eqb (a.key / 4294967296) x) (eqb a.key (key_of t o)) refl refl (drop_other l e)
    where
      go : (u v : Bool) → eqb (a.key / 4294967296) x ≡ u → eqb a.key (key_of t o) ≡ v → lookup_in (key_is (key_of t o)) (dropped x l) ≡ lookup_in (key_is (key_of t o)) l
          → lookup_in (key_is (key_of t o)) (cond (not (eqb (a.key / 4294967296) x)) (a ∷ dropped x l) (dropped x l)) ≡ lookup_in (key_is (key_of t o)) (a ∷ l)
      go true true w w' r = absurd (e (sym (eqb-true (a.key / 4294967296) x w) ∙ key-held a (eqb-true a.key (key_of t o) w')))
      go true false w w' r = rw (w, w') r
      go false v w w' r = rw (w, r)

-- the rows of x as common ones
abbrev pub commons : ℕ → List Row → List Row
commons x l = change common_row (keep (held_by x) l)

module _ (x : ℕ) where
  commons_above : (j : ℕ) (l : List Row) → j / 4294967296 ≡ x → Above j l → Above (j % 4294967296) (commons x l)
  commons_above j [] e s = tt
  commons_above j (a ∷ l) e s = go (eqb (a.key / 4294967296) x) refl (commons_above j l e s.1)
    where
      go : (v : Bool) → eqb (a.key / 4294967296) x ≡ v → Above (j % 4294967296) (commons x l)
          → Above (j % 4294967296) (change common_row (cond v (a ∷ keep (held_by x) l) (keep (held_by x) l)))
      go true w r = (omega (arith, s.0, e, eqb-true (a.key / 4294967296) x w), r)
      go false w r = r

  pub commons_sorted : (l : List Row) → Sorted l → Sorted (commons x l)
  commons_sorted [] s = tt
  commons_sorted (a ∷ l) s = go (eqb (a.key / 4294967296) x) refl (commons_sorted l s.1)
    where
      go : (v : Bool) → eqb (a.key / 4294967296) x ≡ v → Sorted (commons x l) → Sorted (change common_row (cond v (a ∷ keep (held_by x) l) (keep (held_by x) l)))
      go true w r = (commons_above a.key l (eqb-true (a.key / 4294967296) x w) s.0, r)
      go false w r = r

  -- by the key that they had
  same_key : (o : ℕ) → Small o → (a : Row) → a.key / 4294967296 ≡ x → eqb (a.key % 4294967296) (key_of 0 o) ≡ eqb a.key (key_of x o)
  same_key o z a e = go (eqb a.key (key_of x o)) refl
    where
      go : (v : Bool) → eqb a.key (key_of x o) ≡ v → eqb (a.key % 4294967296) (key_of 0 o) ≡ v
      go true w = let k = eqb-true a.key (key_of x o) w in eq-eqb (a.key % 4294967296) (key_of 0 o) (omega arith)
      go false w = let k = eqb-false a.key (key_of x o) w in ne_eqb (a.key % 4294967296) (key_of 0 o) (λ q. k (omega arith))

  other_key : (o : ℕ) → Small o → (a : Row) → (a.key / 4294967296 ≡ x → ⊥) → eqb a.key (key_of x o) ≡ false
  other_key o z a e = ne_eqb a.key (key_of x o) (λ q. e (omega arith))

  pub commons_found : (o : ℕ) → Small o → (l : List Row) → lookup_in (key_is (key_of 0 o)) (commons x l) ≡ lookup_in (key_is (key_of x o)) l
  commons_found o z [] = refl
  commons_found o z (a ∷ l) = go (eqb (a.key / 4294967296) x) refl (commons_found o z l)
    where
      go : (v : Bool) → eqb (a.key / 4294967296) x ≡ v → lookup_in (key_is (key_of 0 o)) (commons x l) ≡ lookup_in (key_is (key_of x o)) l
          → lookup_in (key_is (key_of 0 o)) (change common_row (cond v (a ∷ keep (held_by x) l) (keep (held_by x) l))) ≡ lookup_in (key_is (key_of x o)) (a ∷ l)
      go true w r = rw (same_key o z a (eqb-true (a.key / 4294967296) x w), r)
      go false w r = rw (other_key o z a (eqb-false (a.key / 4294967296) x w)) r

  pub commons_any : (o : ℕ) → Small o → (l : List Row) → any (key_is (key_of 0 o)) (commons x l) ≡ any (key_is (key_of x o)) l
  commons_any o z [] = refl
  commons_any o z (a ∷ l) = go (eqb (a.key / 4294967296) x) refl (commons_any o z l)
    where
      go : (v : Bool) → eqb (a.key / 4294967296) x ≡ v → any (key_is (key_of 0 o)) (commons x l) ≡ any (key_is (key_of x o)) l
          → any (key_is (key_of 0 o)) (change common_row (cond v (a ∷ keep (held_by x) l) (keep (held_by x) l))) ≡ any (key_is (key_of x o)) (a ∷ l)
      go true w r = rw (same_key o z a (eqb-true (a.key / 4294967296) x w), r)
      go false w r = rw (other_key o z a (eqb-false (a.key / 4294967296) x w)) r

  -- none has another holder's key
  pub commons_other : (t o : ℕ) → (t ≡ 0 → ⊥) → (l : List Row) → any (key_is (key_of t o)) (commons x l) ≡ false
  commons_other t o z [] = refl
  commons_other t o z (a ∷ l) = go (eqb (a.key / 4294967296) x) (commons_other t o z l)
    where
      go : (v : Bool) → any (key_is (key_of t o)) (commons x l) ≡ false → any (key_is (key_of t o)) (change common_row (cond v (a ∷ keep (held_by x) l) (keep (held_by x) l))) ≡ false
      go true r = rw (ne_eqb (a.key % 4294967296) (key_of t o) (λ e. z (omega arith))) r
      go false r = r

  pub commons_length : (l : List Row) → length (commons x l) ≡ length (keep (held_by x) l)
  commons_length l = lengths (keep (held_by x) l)
    where
      lengths : (m : List Row) → length (change common_row m) ≡ length m
      lengths [] = refl
      lengths (a ∷ m) = ap suc (lengths m)
