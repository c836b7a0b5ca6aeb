-- The laws of `rows_of`: four lists of numbers are one list of rows.
use mathlib.Core.Path.{◌≡◌, refl, sym, ◌∙◌, ap}
use mathlib.Core.List.{List, [], ◌∷◌}
use Prim.Native.Nat.{ℕ, zero, suc, ◌<◌}
use native.Mathlib.Omega.{arith}
use lib.ListN.{length, get_or, set}
use lib.Seq.{ext_get_or}
use Rattle.wire.specs.Lists.{each, first, rest}
use Rattle.catalog.specs.declared.announcements.Announcements.{Announcements}
use Rattle.catalog.specs.declared.rows.Row.{Row}
use Rattle.catalog.specs.Table.{row, rows_of, row_list, Sized, no_row}

-- a column's head and tail
pub first-is : (l : List ℕ) → first l ≡ get_or l 0 0
first-is [] = refl
first-is (a ∷ l) = refl

pub rest_at : (l : List ℕ) (i : ℕ) → get_or (rest l) i 0 ≡ get_or l (suc i) 0
rest_at [] i = refl
rest_at (a ∷ l) i = refl

pub rest_short : (l : List ℕ) (i : ℕ) → suc i < length l → i < length (rest l)
rest_short [] i h = absurd (omega (arith, h))
rest_short (a ∷ l) i h = omega (arith, h)

pub first-set : (l : List ℕ) (v : ℕ) → 0 < length l → first (set l 0 v) ≡ v
first-set [] v h = absurd (omega (arith, h))
first-set (a ∷ l) v h = refl

pub rest-set : (l : List ℕ) (v : ℕ) → rest (set l 0 v) ≡ rest l
rest-set [] v = refl
rest-set (a ∷ l) v = refl

pub first-later : (l : List ℕ) (i v : ℕ) → first (set l (suc i) v) ≡ first l
first-later [] i v = refl
first-later (a ∷ l) i v = refl

pub rest-later : (l : List ℕ) (i v : ℕ) → rest (set l (suc i) v) ≡ set (rest l) i v
rest-later [] i v = refl
rest-later (a ∷ l) i v = refl

pub rows_length : (keys tags identities columns : List ℕ) → length (rows_of keys tags identities columns) ≡ length keys
rows_length [] tags identities columns = refl
rows_length (a ∷ keys) tags identities columns = ap suc (rows_length keys (rest tags) (rest identities) (rest columns))

pub row_list_length : (a : Announcements) → length (row_list a) ≡ length a.keys
row_list_length a = rows_length a.keys a.tags a.identities a.columns

-- a row by its index
pub rows_at : (keys tags identities columns : List ℕ) (i : ℕ) → i < length keys
    → get_or (rows_of keys tags identities columns) i no_row ≡ row (get_or keys i 0) (get_or tags i 0) (get_or identities i 0) (get_or columns i 0)
rows_at [] tags identities columns i h = absurd (omega (arith, h))
rows_at (a ∷ keys) tags identities columns zero h = rw (← first-is tags, ← first-is identities, ← first-is columns)
rows_at (a ∷ keys) tags identities columns (suc i) h =
    rows_at keys (rest tags) (rest identities) (rest columns) i (omega (arith, h)) ∙ rw (rest_at tags i, rest_at identities i, rest_at columns i)

-- a row that is stored
pub rows_set : (keys tags identities columns : List ℕ) (i : ℕ) (k g d c : ℕ)
    → i < length keys → i < length tags → i < length identities → i < length columns
    → rows_of (set keys i k) (set tags i g) (set identities i d) (set columns i c) ≡ set (rows_of keys tags identities columns) i (row k g d c)
rows_set [] tags identities columns i k g d c b1 b3 b4 b5 = refl
rows_set (a ∷ keys) tags identities columns zero k g d c b1 b3 b4 b5 =
    rw (first-set tags g b3, first-set identities d b4, first-set columns c b5, rest-set tags g, rest-set identities d, rest-set columns c)
rows_set (a ∷ keys) tags identities columns (suc i) k g d c b1 b3 b4 b5 =
    rw (first-later tags i g, first-later identities i d, first-later columns i c, rest-later tags i g, rest-later identities i d, rest-later columns i c)
    (ap (λ (l : List Row). row a (first tags) (first identities) (first columns) ∷ l)
    (rows_set keys (rest tags) (rest identities) (rest columns) i k g d c (omega (arith, b1)) (rest_short tags i b3) (rest_short identities i b4) (rest_short columns i b5)))

-- rows taken apart and put together are as they were
pub rows_each : (l : List Row) → rows_of (each (λ r. r.key) l) (each (λ r. r.tag) l) (each (λ r. r.identity) l) (each (λ r. r.columns) l) ≡ l
rows_each [] = refl
rows_each (r ∷ l) = ap (λ (m : List Row). r ∷ m) (rows_each l)

module _ {A : Type 0} (f : A → ℕ) where
  pub each-length : (l : List A) → length (each f l) ≡ length l
  each-length [] = refl
  each-length (a ∷ l) = ap suc (each-length l)

  pub each_at : (d : A) (l : List A) (i : ℕ) → i < length l → get_or (each f l) i 0 ≡ f (get_or l i d)
  each_at d [] i h = absurd (omega (arith, h))
  each_at d (a ∷ l) zero h = refl
  each_at d (a ∷ l) (suc i) h = each_at d l i (omega (arith, h))

-- a column of the rows is the list that it was made of
module _ (a : Announcements) where
  column : (f : Row → ℕ) (l : List ℕ) → length l ≡ length a.keys
      → ((i : ℕ) → f (row (get_or a.keys i 0) (get_or a.tags i 0) (get_or a.identities i 0) (get_or a.columns i 0)) ≡ get_or l i 0)
      → each f (row_list a) ≡ l
  column f l e same =
      ext_get_or 0 (each f (row_list a)) l
      (each-length f (row_list a) ∙ row_list_length a ∙ sym e)
      (λ i h. let b : i < length a.keys = omega (arith, h, each-length f (row_list a), row_list_length a) in
      each_at f no_row (row_list a) i (omega (arith, b, row_list_length a))
      ∙ ap f (rows_at a.keys a.tags a.identities a.columns i b) ∙ same i)

  module _ (s : Sized a) where
    pub keys_of : each (λ r. r.key) (row_list a) ≡ a.keys
    keys_of = column (λ r. r.key) a.keys refl (λ i. refl)

    pub tags_of : each (λ r. r.tag) (row_list a) ≡ a.tags
    tags_of = column (λ r. r.tag) a.tags (s.tags_256 ∙ sym s.keys_256) (λ i. refl)

    pub identities_of : each (λ r. r.identity) (row_list a) ≡ a.identities
    identities_of = column (λ r. r.identity) a.identities (s.identities_256 ∙ sym s.keys_256) (λ i. refl)

    pub columns_of : each (λ r. r.columns) (row_list a) ≡ a.columns
    columns_of = column (λ r. r.columns) a.columns (s.columns_256 ∙ sym s.keys_256) (λ i. refl)
