-- THE TABLE OF 256: an entry names a kind exactly for the letters of the layouts, and no two letters name the same kind
-- (document 01, "Layouts"), each by one computed test over the table itself. Assumes nothing.
use Prim.Native.Nat.{ℕ, zero, suc, ◌<◌}
use mathlib.Core.List.{List, [], ◌∷◌}
use mathlib.Core.Bool.{Bool, true, false, cond, not, ◌&&◌, ◌||◌, false≢true}
use Rattle.std.specs.Prelude.{Option, None, Some}
use mathlib.Core.Path.{◌≡◌, refl, ap, sym, ◌∙◌}
use native.Mathlib.Nat.{le_of_suc-le-suc, not-suc-le-zero}
use native.Mathlib.Omega.{arith}
use borrow.Author.Tests.{eqb-true, eq-eqb, ne_eqb}
use lib.Dec.{eqb}
use lib.ListN.{get_or}
use Rattle.wire.specs.Fields.{member}
use Rattle.wire.proofs.Tests.{and_parts}
use Rattle.message.specs.Kinds.{Kind, begin, commit, origin, relation, type, insert, update, delete, truncate, message, stream_start, stream_stop, stream_commit, stream_abort, letter_of, all_kinds, kind_among, kind_of, kind_number, numbered, kind_numbered}

-- the first n values of a function
module _ {A : Type 0} where
  abbrev pub tabulate : ℕ → (ℕ → A) → List A
  tabulate zero f = []
  tabulate (suc n) f = f 0 ∷ tabulate n (λ (i : ℕ). f (suc i))

  pub get_d_tabulate : (n : ℕ) (f : ℕ → A) (k : ℕ) (d : A) → k < n → get_or (tabulate n f) k d ≡ f k
  get_d_tabulate zero f k d h = absurd (not-suc-le-zero h)
  get_d_tabulate (suc n) f zero d h = refl
  get_d_tabulate (suc n) f (suc k) d h = get_d_tabulate n (λ (i : ℕ). f (suc i)) k d (le_of_suc-le-suc h)

  -- functions with the same first n values agree there
  pub agree : (n : ℕ) (f g : ℕ → A) → tabulate n f ≡ tabulate n g → (k : ℕ) → k < n → f k ≡ g k
  agree n f g e k h = sym (get_d_tabulate n f k (f 0) h) ∙ ap (λ (xs : List A). get_or xs k (f 0)) e ∙ get_d_tabulate n g k (f 0) h

-- a kind is found by its number
pub numbered_number : (k : Option Kind) → kind_numbered (kind_number k) ≡ k
unfolding numbered
numbered_number None = refl
numbered_number (Some begin) = refl
numbered_number (Some commit) = refl
numbered_number (Some origin) = refl
numbered_number (Some relation) = refl
numbered_number (Some type) = refl
numbered_number (Some insert) = refl
numbered_number (Some update) = refl
numbered_number (Some delete) = refl
numbered_number (Some truncate) = refl
numbered_number (Some message) = refl
numbered_number (Some stream_start) = refl
numbered_number (Some stream_stop) = refl
numbered_number (Some stream_commit) = refl
numbered_number (Some stream_abort) = refl

-- and by its letter
pub of_letter : (k : Kind) → kind_of (letter_of k) ≡ Some k
unfolding kind_among
of_letter begin = refl
of_letter commit = refl
of_letter origin = refl
of_letter relation = refl
of_letter type = refl
of_letter insert = refl
of_letter update = refl
of_letter delete = refl
of_letter truncate = refl
of_letter message = refl
of_letter stream_start = refl
of_letter stream_stop = refl
of_letter stream_commit = refl
of_letter stream_abort = refl

some_is : {j k : Kind} → Some j ≡ Some k → letter_of j ≡ letter_of k
some_is e = cc

found : (l : ℕ) (k : Kind) (ks : List Kind) → kind_among ks l ≡ Some k → l ≡ letter_of k
unfolding kind_among
found l k [] e = let z : ◌≡◌ {A = ℕ} 0 1 = cc in absurd (omega arith)
found l k (j ∷ js) e = go (eqb l (letter_of j)) refl (found l k js) e
  where
    go : (t : Bool) → eqb l (letter_of j) ≡ t → (kind_among js l ≡ Some k → l ≡ letter_of k) → cond t (Some j) (kind_among js l) ≡ Some k → l ≡ letter_of k
    go true t later e = eqb-true l (letter_of j) t ∙ some_is e
    go false t later e = later e

-- a byte that names a kind is the kind's letter
pub letter_of_lem : (l : ℕ) (k : Kind) → kind_of l ≡ Some k → l ≡ letter_of k
letter_of_lem l k e = found l k all_kinds e

-- THE TABLE

-- the numbers of message/src/kinds.rt, as `number_of` reads them
unfoldable pub table : List ℕ
table =
    0 ∷ 0 ∷ 0 ∷ 0 ∷ 0 ∷ 0 ∷ 0 ∷ 0 ∷ 0 ∷ 0 ∷ 0 ∷ 0 ∷ 0 ∷ 0 ∷ 0 ∷ 0
    ∷ 0 ∷ 0 ∷ 0 ∷ 0 ∷ 0 ∷ 0 ∷ 0 ∷ 0 ∷ 0 ∷ 0 ∷ 0 ∷ 0 ∷ 0 ∷ 0 ∷ 0 ∷ 0
    ∷ 0 ∷ 0 ∷ 0 ∷ 0 ∷ 0 ∷ 0 ∷ 0 ∷ 0 ∷ 0 ∷ 0 ∷ 0 ∷ 0 ∷ 0 ∷ 0 ∷ 0 ∷ 0
    ∷ 0 ∷ 0 ∷ 0 ∷ 0 ∷ 0 ∷ 0 ∷ 0 ∷ 0 ∷ 0 ∷ 0 ∷ 0 ∷ 0 ∷ 0 ∷ 0 ∷ 0 ∷ 0
    ∷ 0 ∷ 14 ∷ 1 ∷ 2 ∷ 8 ∷ 12 ∷ 0 ∷ 0 ∷ 0 ∷ 6 ∷ 0 ∷ 0 ∷ 0 ∷ 10 ∷ 0 ∷ 3
    ∷ 0 ∷ 0 ∷ 4 ∷ 11 ∷ 9 ∷ 7 ∷ 0 ∷ 0 ∷ 0 ∷ 5 ∷ 0 ∷ 0 ∷ 0 ∷ 0 ∷ 0 ∷ 0
    ∷ 0 ∷ 0 ∷ 0 ∷ 13 ∷ 0 ∷ 0 ∷ 0 ∷ 0 ∷ 0 ∷ 0 ∷ 0 ∷ 0 ∷ 0 ∷ 0 ∷ 0 ∷ 0
    ∷ 0 ∷ 0 ∷ 0 ∷ 0 ∷ 0 ∷ 0 ∷ 0 ∷ 0 ∷ 0 ∷ 0 ∷ 0 ∷ 0 ∷ 0 ∷ 0 ∷ 0 ∷ 0
    ∷ 0 ∷ 0 ∷ 0 ∷ 0 ∷ 0 ∷ 0 ∷ 0 ∷ 0 ∷ 0 ∷ 0 ∷ 0 ∷ 0 ∷ 0 ∷ 0 ∷ 0 ∷ 0
    ∷ 0 ∷ 0 ∷ 0 ∷ 0 ∷ 0 ∷ 0 ∷ 0 ∷ 0 ∷ 0 ∷ 0 ∷ 0 ∷ 0 ∷ 0 ∷ 0 ∷ 0 ∷ 0
    ∷ 0 ∷ 0 ∷ 0 ∷ 0 ∷ 0 ∷ 0 ∷ 0 ∷ 0 ∷ 0 ∷ 0 ∷ 0 ∷ 0 ∷ 0 ∷ 0 ∷ 0 ∷ 0
    ∷ 0 ∷ 0 ∷ 0 ∷ 0 ∷ 0 ∷ 0 ∷ 0 ∷ 0 ∷ 0 ∷ 0 ∷ 0 ∷ 0 ∷ 0 ∷ 0 ∷ 0 ∷ 0
    ∷ 0 ∷ 0 ∷ 0 ∷ 0 ∷ 0 ∷ 0 ∷ 0 ∷ 0 ∷ 0 ∷ 0 ∷ 0 ∷ 0 ∷ 0 ∷ 0 ∷ 0 ∷ 0
    ∷ 0 ∷ 0 ∷ 0 ∷ 0 ∷ 0 ∷ 0 ∷ 0 ∷ 0 ∷ 0 ∷ 0 ∷ 0 ∷ 0 ∷ 0 ∷ 0 ∷ 0 ∷ 0
    ∷ 0 ∷ 0 ∷ 0 ∷ 0 ∷ 0 ∷ 0 ∷ 0 ∷ 0 ∷ 0 ∷ 0 ∷ 0 ∷ 0 ∷ 0 ∷ 0 ∷ 0 ∷ 0
    ∷ 0 ∷ 0 ∷ 0 ∷ 0 ∷ 0 ∷ 0 ∷ 0 ∷ 0 ∷ 0 ∷ 0 ∷ 0 ∷ 0 ∷ 0 ∷ 0 ∷ 0 ∷ 0
    ∷ []

-- the letter rule, by computation: the entry at each byte is the number of the kind that it names, 0 where it names none
by_letter : table ≡ tabulate 256 (λ l. kind_number (kind_of l))
unfolding table kind_among
by_letter = refl

pub entry : (l : ℕ) → l < 256 → get_or table l 0 ≡ kind_number (kind_of l)
entry l h = ap (λ (xs : List ℕ). get_or xs l 0) by_letter ∙ get_d_tabulate 256 (λ i. kind_number (kind_of i)) l 0 h

-- so it is a kind's number at the kind's letter and nowhere else
pub names : (l : ℕ) → l < 256 → (k : Kind) → get_or table l 0 ≡ kind_number (Some k) → l ≡ letter_of k
names l h k e = letter_of_lem l k (sym (numbered_number (kind_of l)) ∙ ap kind_numbered (sym (entry l h) ∙ e) ∙ numbered_number (Some k))

pub named-at : (k : Kind) → get_or table (letter_of k) 0 ≡ kind_number (Some k)
unfolding table
named-at begin = refl
named-at commit = refl
named-at origin = refl
named-at relation = refl
named-at type = refl
named-at insert = refl
named-at update = refl
named-at delete = refl
named-at truncate = refl
named-at message = refl
named-at stream_start = refl
named-at stream_stop = refl
named-at stream_commit = refl
named-at stream_abort = refl

-- DISTINCT

-- no number but 0 stands twice
once : List ℕ → Bool
once [] = true
once (x ∷ xs) = (eqb x 0 || not (member xs x)) && once xs

all_once : once table ≡ true
unfolding once table member
all_once = refl

or_true : (b : Bool) → b || true ≡ true
or_true true = refl
or_true false = refl

member-at : (xs : List ℕ) (i : ℕ) → (get_or xs i 0 ≡ 0 → ⊥) → member xs (get_or xs i 0) ≡ true
unfolding member
member-at [] i n = absurd (n refl)
member-at (x ∷ xs) zero n = rw (eq-eqb x x refl)
member-at (x ∷ xs) (suc i) n = rw (member-at xs i n) (or_true (eqb x (get_or xs i 0)))

twice : (x : ℕ) (xs : List ℕ) (i : ℕ) {A : Type 0} → once (x ∷ xs) ≡ true → x ≡ get_or xs i 0 → (x ≡ 0 → ⊥) → A
unfolding once
twice x xs i o e n =
    let m : member xs x ≡ true = rw (← e) at (member-at xs i (λ z. n (e ∙ z))) in
    let f : not true && once xs ≡ true = rw (ne_eqb x 0 n, m) at o in
    absurd (false≢true f)

apart : (xs : List ℕ) → once xs ≡ true → (i j : ℕ) → get_or xs i 0 ≡ get_or xs j 0 → (get_or xs i 0 ≡ 0 → ⊥) → i ≡ j
unfolding once
apart [] o i j e n = absurd (n refl)
apart (x ∷ xs) o zero zero e n = refl
apart (x ∷ xs) o zero (suc j) e n = twice x xs j o e n
apart (x ∷ xs) o (suc i) zero e n = twice x xs i o (sym e) (λ z. n (e ∙ z))
apart (x ∷ xs) o (suc i) (suc j) e n = ap suc (apart xs (and_parts (eqb x 0 || not (member xs x)) (once xs) o).1 i j e n)

-- two entries are the same only where both are 0
pub entries_distinct : (l m : ℕ) → get_or table l 0 ≡ get_or table m 0 → (get_or table l 0 ≡ 0 → ⊥) → l ≡ m
entries_distinct l m e n = apart table all_once l m e n
