-- The laws of the table of announcements: its rows stay sorted, and what is found after each of its operations. Assumes nothing.
use mathlib.Core.Path.{◌≡◌, refl, sym, ◌∙◌, ap}
use mathlib.Core.List.{List, []}
use mathlib.Core.Bool.{Bool, true, false, cond, not, ◌&&◌}
use Prim.Native.Nat.{ℕ, ◌+◌, ◌/◌, ◌%◌, ◌≤◌, ◌<◌}
use native.Mathlib.Omega.{arith}
use lib.ListN.{length, get_or}
use lib.Dec.{eqb}
use borrow.Author.Tests.{eqb-true, eqb-false, eq-eqb, ne_eqb, leb-false}
use Rattle.std.specs.Prelude.{Option}
use Rattle.catalog.specs.declared.announcements.Announcement.{Announcement}
use Rattle.std.specs.Prelude.{None}
use Rattle.wire.specs.Lists.{any, tally}
use Rattle.catalog.specs.declared.rows.Row.{Row}
use Rattle.catalog.specs.Table.{key_of, key_is, found_in, lookup_in, seen_in, has_in, is_full, held_by, dropped, released, put_row, Sorted, Small, place_in, no_row}
use Rattle.catalog.proofs.Sorted as s
use Rattle.catalog.proofs.Sorted.{commons}

-- keys are ordered by the holder, then by the OID
pub holder-first : (t o u p : ℕ) → Small o → t < u → key_of t o < key_of u p
holder-first t o u p z h = omega arith

pub then_oid : (t o p : ℕ) → o < p → key_of t o < key_of t p
then_oid t o p h = omega arith

-- a table with room for so many rows, 256 at most: they are sorted, so no key stands twice
pub record Table (room : ℕ) (l : List Row) : Type 0 where
  pub sorted : Sorted l
  pub most : length l ≤ room
  pub small : room ≤ 256

-- A KEY is its holder and its OID
pub key-parts : (k t o : ℕ) → Small o → eqb (k / 4294967296) t && eqb (k % 4294967296) o ≡ eqb k (key_of t o)
key-parts k t o z = go (eqb (k / 4294967296) t) (eqb (k % 4294967296) o) refl refl
  where
    go : (u v : Bool) → eqb (k / 4294967296) t ≡ u → eqb (k % 4294967296) o ≡ v → u && v ≡ eqb k (key_of t o)
    go true true a b = let p = eqb-true (k / 4294967296) t a in let q = eqb-true (k % 4294967296) o b in sym (eq-eqb k (key_of t o) (omega arith))
    go true false a b = let q = eqb-false (k % 4294967296) o b in sym (ne_eqb k (key_of t o) (λ e. q (omega arith)))
    go false v a b = let q = eqb-false (k / 4294967296) t a in sym (ne_eqb k (key_of t o) (λ e. q (omega arith)))

pub key-same : (x n t o : ℕ) → Small n → Small o → eqb (key_of x n) (key_of t o) ≡ eqb x t && eqb n o
key-same x n t o a b =
    let p : key_of x n / 4294967296 ≡ x = omega arith in
    let q : key_of x n % 4294967296 ≡ n = omega arith in
    sym (key-parts (key_of x n) t o b) ∙ ap (λ (u : ℕ). eqb u t && eqb (key_of x n % 4294967296) o) p ∙ ap (λ (u : ℕ). eqb x t && eqb u o) q

pub fresh : (room : ℕ) → room ≤ 256 → Table room []
fresh room h = record { sorted = tt; most = omega arith; small = h }

-- whether a row is found
pub found_has : (found : Option Announcement → Bool) → ((r : Row) → found (found_in r) ≡ true) → found None ≡ false → (l : List Row) (k : ℕ) → found (seen_in k l) ≡ has_in k l
found_has found some none l k = go (has_in k l)
  where
    go : (v : Bool) → found (cond v (found_in (get_or l (place_in k l) no_row)) None) ≡ v
    go true = some (get_or l (place_in k l) no_row)
    go false = none

module _ (room : ℕ) (l : List Row) (a : Table room l) where
  few : length l ≤ 256
  few = omega (arith, a.most, a.small)

  -- nine looks find what a search row by row would find
  pub sight : (k : ℕ) → seen_in k l ≡ lookup_in (key_is k) l
  sight k = s.seen_first k l a.sorted few

  pub has : (k : ℕ) → has_in k l ≡ any (key_is k) l
  has k = s.has_any k l a.sorted few

  pub once : (k : ℕ) → tally (key_is k) l ≤ 1
  once k = s.sorted_once k l a.sorted

  -- A ROW IS PUT
  module _ (r : Row) (free : has_in r.key l ≡ false → is_full room l ≡ false) where
    less : any (key_is r.key) l ≡ false → length l < room
    less e = leb-false room (length l) (free (has r.key ∙ e))

    pub put-table : Table room (put_row room r l)
    put-table = record { sorted = s.put-sorted r room l a.sorted few less; most = s.put_most r room l a.sorted few less a.most; small = a.small }

  pub put_seen : (r : Row) (free : has_in r.key l ≡ false → is_full room l ≡ false) (k : ℕ)
      → seen_in k (put_row room r l) ≡ cond (eqb r.key k) (found_in r) (seen_in k l)
  put_seen r free k =
      let b = put-table r free in
      s.seen_first k (put_row room r l) b.sorted (omega (arith, b.most, b.small))
      ∙ s.put_found r room l a.sorted few (less r free) k
      ∙ ap (λ (x : Option Announcement). cond (eqb r.key k) (found_in r) x) (sym (sight k))

  -- THE ROWS OF A HOLDER ARE DROPPED
  module _ (x : ℕ) where
    pub drop-table : Table room (dropped x l)
    drop-table = record {
      sorted = s.keep-sorted (λ r. not (held_by x r)) l a.sorted;
      most = let m = s.keep_most (λ r. not (held_by x r)) l in let n = a.most in omega arith;
      small = a.small;
    }

  pub drop_seen : (x t o : ℕ) → Small o → seen_in (key_of t o) (dropped x l) ≡ cond (eqb x t) None (seen_in (key_of t o) l)
  drop_seen x t o z = let b = drop-table x in s.seen_first (key_of t o) (dropped x l) b.sorted (omega (arith, b.most, b.small)) ∙ go (eqb x t) refl
    where
      go : (v : Bool) → eqb x t ≡ v → lookup_in (key_is (key_of t o)) (dropped x l) ≡ cond v None (seen_in (key_of t o) l)
      go true e = s.drop_own x t o z l (eqb-true x t e)
      go false e = s.drop_other x t o z l (eqb-false x t e) ∙ sym (sight (key_of t o))

  -- THE ROWS OF A HOLDER BECOME COMMON, and take the places of the common ones of their OIDs
  module _ (x : ℕ) where
    lengths : length (dropped x l) + length (commons x l) ≤ room
    lengths = let m = s.keep_both (held_by x) l in let c = s.commons_length x l in let n = a.most in omega arith

    pub release-table : Table room (released room x l)
    release-table =
        let w = s.all_sorted room a.small (commons x l) (dropped x l) (drop-table x).sorted lengths in
        record { sorted = w.0; most = let n = lengths in omega (arith, n, w.1); small = a.small }

    release_found : (k : ℕ)
        → lookup_in (key_is k) (released room x l) ≡ cond (any (key_is k) (commons x l)) (lookup_in (key_is k) (commons x l)) (lookup_in (key_is k) (dropped x l))
    release_found k = s.all_found room a.small k (commons x l) (dropped x l) (s.commons_sorted x l a.sorted) (drop-table x).sorted lengths

    release_seen : (k : ℕ)
        → seen_in k (released room x l) ≡ cond (any (key_is k) (commons x l)) (lookup_in (key_is k) (commons x l)) (lookup_in (key_is k) (dropped x l))
    release_seen k = let b = release-table in s.seen_first k (released room x l) b.sorted (omega (arith, b.most, b.small)) ∙ release_found k

    module _ (nz : x ≡ 0 → ⊥) (o : ℕ) (z : Small o) where
      pub release-own : seen_in (key_of x o) (released room x l) ≡ None
      release-own = release_seen (key_of x o) ∙ rw (s.commons_other x x o nz l) (s.drop_own x x o z l refl)

      pub release_other : (t : ℕ) → (t ≡ 0 → ⊥) → (x ≡ t → ⊥) → seen_in (key_of t o) (released room x l) ≡ seen_in (key_of t o) l
      release_other t tz e = release_seen (key_of t o) ∙ rw (s.commons_other x t o tz l) (s.drop_other x t o z l e ∙ sym (sight (key_of t o)))

      -- x's where it has one, else the common one
      pub release-common : seen_in (key_of 0 o) (released room x l) ≡ cond (has_in (key_of x o) l) (seen_in (key_of x o) l) (seen_in (key_of 0 o) l)
      release-common =
          release_seen (key_of 0 o)
          ∙ rw (s.commons_any x o z l, s.commons_found x o z l, s.drop_other x 0 o z l nz, ← sight (key_of x o), ← sight (key_of 0 o), ← has (key_of x o))
