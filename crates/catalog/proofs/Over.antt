-- Rows written from the front over what was there, one at a time: the passes that insert a row, and that keep or move some. Assumes nothing.
use mathlib.Core.Path.{◌≡◌, refl, sym, ◌∙◌, ap}
use mathlib.Core.List.{List, [], ◌∷◌, ◌++◌, append_assoc, append-nil}
use mathlib.Core.Bool.{Bool, true, false, cond, not}
use Prim.Native.Nat.{ℕ, zero, suc, ◌+◌, ◌-◌, ◌≤◌, ◌<◌}
use native.Mathlib.Numerals.{add-one}
use native.Mathlib.Omega.{arith}
use lib.ListN.{length, take, drop, get_or, set, length-append, length-take, length-drop, drop_of_length-le}
use lib.Seq.{take-suc, drop-cons, take-append_seam, drop-append-add, get_or-append-add, set-append_seam, append_snoc, drop-append-le, drop-drop, get_or-drop, length-take-le, take-take, take-append-le}
use Rattle.wire.specs.Lists.{keep}
use Rattle.catalog.specs.declared.rows.Row.{Row}
use Rattle.catalog.specs.Table.{no_row, over, part, insert_at}
use Rattle.catalog.proofs.Sorted.{keep_most}

-- a row more
pub over_push : (new old : List Row) (r : Row) → length new < length old → set (over new old) (length new) r ≡ over (new ++ r ∷ []) old
over_push new old r h =
    rw (drop-cons old (length new) no_row h, set-append_seam new (get_or old (length new) no_row) (drop (suc (length new)) old) r, length-append new (r ∷ []), add-one (length new), append_snoc new r (drop (suc (length new)) old))

-- what is behind them
pub over-at : (new old : List Row) (i : ℕ) → length new ≤ i → get_or (over new old) i no_row ≡ get_or old i no_row
over-at new old i h =
    let e : i ≡ length new + (i - length new) = omega arith in
    ap (λ (j : ℕ). get_or (over new old) j no_row) e ∙ get_or-append-add new (drop (length new) old) (i - length new) no_row
    ∙ get_or-drop (length new) old (i - length new) no_row ∙ ap (λ (j : ℕ). get_or old j no_row) (sym e)

-- what is behind them, as a list
pub over-drop : (new old : List Row) (i : ℕ) → length new ≤ i → drop i (over new old) ≡ drop i old
over-drop new old i h =
    let e : i ≡ length new + (i - length new) = omega arith in
    ap (λ (j : ℕ). drop j (over new old)) e
    ∙ drop-append-add new (drop (length new) old) (i - length new)
    ∙ drop-drop (i - length new) (length new) old
    ∙ ap (λ (j : ℕ). drop j old) (sym e)

-- over rows that were written over the same
pub over-over : (new mid old : List Row) → length mid ≤ length new → over new (over mid old) ≡ over new old
over-over new mid old h = ap (λ (l : List Row). new ++ l) (over-drop mid old (length new) h)

pub over-take : (new old : List Row) → take (length new) (over new old) ≡ new
over-take new old = take-append_seam new (drop (length new) old)

pub over_self : (n : ℕ) (old : List Row) → over (take n old) old ≡ old
over_self zero old = refl
over_self (suc n) [] = refl
over_self (suc n) (a ∷ old) = ap (λ (l : List Row). a ∷ l) (over_self n old)

-- A ROW IS INSERTED: those before `at`, the row, those from `at` to i
module _ (at : ℕ) (r : Row) (old : List Row) where
  abbrev pub shifted : ℕ → List Row
  shifted i = insert_at at r (take i old)

  shifted_start : at ≤ length old → shifted at ≡ take at old ++ r ∷ []
  shifted_start h = rw (take-take at at old (omega arith), drop_of_length-le (take at old) {i = at} (omega (arith, length-take-le at old h)))

  shifted_next : (i : ℕ) → at ≤ i → i < length old → shifted (i + 1) ≡ shifted i ++ get_or old i no_row ∷ []
  shifted_next i h b =
      let n : at ≤ length (take i old) = omega (arith, length-take-le i old (omega arith)) in
      rw (
        add-one i,
        take-suc old i no_row b,
        take-append-le at (take i old) (get_or old i no_row ∷ []) n,
        drop-append-le at (take i old) (get_or old i no_row ∷ []) n,
        append_assoc (take at (take i old)) (r ∷ drop at (take i old)) (get_or old i no_row ∷ []),
      )

pub insert-length : (i : ℕ) (r : Row) (l : List Row) → length (insert_at i r l) ≡ suc (length l)
insert-length i r l = length-append (take i l) (r ∷ drop i l) ∙ (let a = length-take i l in let b = length-drop i l in omega arith)

-- the loop: what is written, and the row in hand
pub record Shifting (at : ℕ) (r : Row) (old rows : List Row) (held : Row) (i : ℕ) : Type 0 where
  pub new : List Row
  pub low : at ≤ i
  pub is : rows ≡ over new old
  pub size : length new ≡ i
  pub whole : new ++ held ∷ [] ≡ shifted at r old i

pub shift_start : (at : ℕ) (r : Row) (old : List Row) → at ≤ length old → Shifting at r old old r at
shift_start at r old h = record {
  new = take at old;
  low = omega arith;
  is = sym (over_self at old);
  size = length-take-le at old h;
  whole = sym (shifted_start at r old h);
}

module _ (at : ℕ) (r : Row) (old rows : List Row) (held : Row) (i : ℕ) (s : Shifting at r old rows held i) (b : i < length old) where
  store_held : (rows' : List Row) → rows' ≡ set rows i held → rows' ≡ over (s.new ++ held ∷ []) old
  store_held rows' e = e ∙ rw (s.is, ← s.size) (over_push s.new old held (omega (arith, s.size, b)))

  pub shift_turn : (rows' : List Row) (next : Row) → rows' ≡ set rows i held → next ≡ get_or rows i no_row → Shifting at r old rows' next (i + 1)
  shift_turn rows' next e q = record {
    new = s.new ++ held ∷ [];
    low = omega (arith, s.low);
    is = store_held rows' e;
    size = length-append s.new (held ∷ []) ∙ (let z = s.size in omega arith);
    whole = rw (s.whole, q, s.is, over-at s.new old i (omega (arith, s.size))) (sym (shifted_next at r old i s.low b));
  }

  pub shift_end : (rows' : List Row) (n : ℕ) → rows' ≡ set rows n held → i ≡ n → rows' ≡ over (insert_at at r (take n old)) old
  shift_end rows' n e z = store_held rows' (rw (← z) at e) ∙ rw (s.whole, z)

-- SOME ROWS ARE KEPT

pub keep_append : (p : Row → Bool) (l : List Row) (r : Row) → keep p (l ++ r ∷ []) ≡ keep p l ++ cond (p r) (r ∷ []) []
keep_append p [] r = go (p r)
  where
    go : (v : Bool) → cond v (r ∷ []) [] ≡ cond v (r ∷ []) []
    go v = refl
keep_append p (a ∷ l) r = go (p a) (keep_append p l r)
  where
    go : (v : Bool) → keep p (l ++ r ∷ []) ≡ keep p l ++ cond (p r) (r ∷ []) [] → cond v (a ∷ keep p (l ++ r ∷ [])) (keep p (l ++ r ∷ [])) ≡ cond v (a ∷ keep p l) (keep p l) ++ cond (p r) (r ∷ []) []
    go true w = ap (λ (m : List Row). a ∷ m) w
    go false w = w

-- what is kept of the rows from `start` to i stands behind `base`, no longer than `start`
pub record Keeping (base : List Row) (start : ℕ) (p : Row → Bool) (old rows : List Row) (kept i : ℕ) : Type 0 where
  pub short : length base ≤ start
  pub low : start ≤ i
  pub is : rows ≡ over (base ++ keep p (part start (i - start) old)) old
  pub size : kept ≡ length (base ++ keep p (part start (i - start) old))

-- one row more of a part
part-next : (start i : ℕ) (old : List Row) → start ≤ i → i < length old → part start (i + 1 - start) old ≡ part start (i - start) old ++ get_or old i no_row ∷ []
part-next start i old l b =
    let e : i + 1 - start ≡ suc (i - start) = omega arith in
    let f : start + (i - start) ≡ i = omega arith in
    rw e (take-suc (drop start old) (i - start) no_row (omega (arith, length-drop start old)))
    ∙ ap (λ (r : Row). part start (i - start) old ++ r ∷ []) (get_or-drop start old (i - start) no_row ∙ rw f)

part_none : (start : ℕ) (old : List Row) → part start (start - start) old ≡ []
part_none start old = let e : start - start ≡ 0 = omega arith in rw e

pub keep-start : (p : Row → Bool) (to start : ℕ) (old : List Row) → to ≤ start → to ≤ length old → Keeping (take to old) start p old old to start
keep-start p to start old h m = record {
  short = omega (arith, length-take-le to old m);
  low = omega arith;
  is = sym (rw (part_none start old, append-nil (take to old)) (over_self to old));
  size = sym (rw (part_none start old, append-nil (take to old)) (length-take-le to old m));
}

module _ (base : List Row) (start : ℕ) (p : Row → Bool) (old rows : List Row) (kept i : ℕ) (s : Keeping base start p old rows kept i) (b : i < length old) where
  abbrev new : List Row
  new = base ++ keep p (part start (i - start) old)

  pub kept_most : kept ≤ i
  kept_most =
      let m = keep_most p (part start (i - start) old) in
      let n = length-take (i - start) (drop start old) in
      let a = length-append base (keep p (part start (i - start) old)) in
      omega (arith, s.size, s.short, s.low)

  kept_row : get_or rows i no_row ≡ get_or old i no_row
  kept_row = rw s.is (over-at new old i (omega (arith, s.size, kept_most)))

  one_more : base ++ keep p (part start (i + 1 - start) old) ≡ new ++ cond (p (get_or old i no_row)) (get_or old i no_row ∷ []) []
  one_more =
      rw (part-next start i old s.low b, keep_append p (part start (i - start) old) (get_or old i no_row))
      (sym (append_assoc base (keep p (part start (i - start) old)) (cond (p (get_or old i no_row)) (get_or old i no_row ∷ []) [])))

  pub keep_turn : (rows' : List Row) → p (get_or rows i no_row) ≡ true → rows' ≡ set rows kept (get_or rows i no_row) → Keeping base start p old rows' (kept + 1) (i + 1)
  keep_turn rows' t e =
      let m : base ++ keep p (part start (i + 1 - start) old) ≡ new ++ get_or old i no_row ∷ [] = one_more ∙ rw (← kept_row, t) in
      record {
        short = s.short;
        low = omega (arith, s.low);
        is = e ∙ rw (kept_row, m, s.is, s.size) (over_push new old (get_or old i no_row) (omega (arith, s.size, kept_most)));
        size = rw m (sym (length-append new (get_or old i no_row ∷ []) ∙ (let z = s.size in omega arith)));
      }

  skip_turn : p (get_or rows i no_row) ≡ false → Keeping base start p old rows kept (i + 1)
  skip_turn t =
      let m : base ++ keep p (part start (i + 1 - start) old) ≡ new = one_more ∙ rw (← kept_row, t) (append-nil new) in
      record { short = s.short; low = omega (arith, s.low); is = rw m s.is; size = rw m s.size }

-- the turn of a loop that drops the rows which pass q
pub keep-step : (base : List Row) (start : ℕ) (q : Row → Bool) (old rows : List Row) (kept i : ℕ) → Keeping base start (λ r. not (q r)) old rows kept i → i < length old
    → (rows' : List Row) (kept' : ℕ) → kept' ≡ cond (q (get_or rows i no_row)) kept (kept + 1)
    → rows' ≡ cond (q (get_or rows i no_row)) rows (set rows kept (get_or rows i no_row)) → Keeping base start (λ r. not (q r)) old rows' kept' (i + 1)
keep-step base start q old rows kept i s b rows' kept' z e = go (q (get_or rows i no_row)) refl z e
  where
    go : (v : Bool) → q (get_or rows i no_row) ≡ v → kept' ≡ cond v kept (kept + 1) → rows' ≡ cond v rows (set rows kept (get_or rows i no_row)) → Keeping base start (λ r. not (q r)) old rows' kept' (i + 1)
    go true w z e = rw (z, e) (skip_turn base start (λ r. not (q r)) old rows kept i s b (ap not w))
    go false w z e = rw z (keep_turn base start (λ r. not (q r)) old rows kept i s b rows' (ap not w) e)

-- where the loop has gone through n rows
pub keep_end : (to start n : ℕ) (p : Row → Bool) (old rows : List Row) (kept i : ℕ) → Keeping (take to old) start p old rows kept i → i ≡ start + n → to ≤ length old
    → (kept ≡ to + length (keep p (part start n old))) × (rows ≡ over (take to old ++ keep p (part start n old)) old)
keep_end to start n p old rows kept i s e h =
    let z : i - start ≡ n = omega arith in
    let a : length (take to old ++ keep p (part start n old)) ≡ to + length (keep p (part start n old)) =
    length-append (take to old) (keep p (part start n old)) ∙ (let l = length-take-le to old h in omega arith) in
    ((rw z at s.size) ∙ a, (rw z at s.is))

-- SOME ROWS ARE MOVED

-- k of the rows from `from` on stand at `to`
abbrev pub Moved : ℕ → ℕ → List Row → List Row → ℕ → Type 0
Moved to from old rows k = rows ≡ over (take to old ++ part from k old) old

module _ (to from : ℕ) (old : List Row) (h : to ≤ from) where
  pub move_start : to ≤ length old → Moved to from old old 0
  move_start m = sym (rw (append-nil (take to old)) (over_self to old))

  pub move_turn : (k : ℕ) (rows rows' : List Row) {i j : ℕ} → from + k < length old → Moved to from old rows k
      → rows' ≡ set rows j (get_or rows i no_row) → i ≡ from + k → j ≡ to + k → Moved to from old rows' (k + 1)
  move_turn k rows rows' b is e at_from at_to =
      let new : List Row = take to old ++ part from k old in
      let r : Row = get_or old (from + k) no_row in
      let n : length new ≡ to + k =
      length-append (take to old) (part from k old) ∙ omega (arith, length-take-le to old (omega arith), length-take-le k (drop from old) (omega (arith, length-drop from old))) in
      let g : get_or rows (from + k) no_row ≡ r = rw is (over-at new old (from + k) (omega arith)) in
      let p : part from (k + 1) old ≡ part from k old ++ r ∷ [] =
      rw (add-one k) (take-suc (drop from old) k no_row (omega (arith, length-drop from old)) ∙ ap (λ (x : Row). part from k old ++ x ∷ []) (get_or-drop from old k no_row)) in
      rw (at_from, at_to) at e ∙ rw (g, is, ← n) (over_push new old r (omega arith)) ∙ ap (λ (m : List Row). over m old) (append_assoc (take to old) (part from k old) (r ∷ []) ∙ rw (← p))
