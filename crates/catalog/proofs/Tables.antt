-- THE LAWS of the table of announcements, all that is known of it above: what is found after each operation, and how many there are. Assumes nothing.
use mathlib.Core.Path.{◌≡◌, refl, sym, ◌∙◌, ap, ap₂}
use mathlib.Core.List.{List, [], ◌∷◌}
use mathlib.Core.Bool.{Bool, true, false, cond, ◌&&◌, true≢false, false≢true}
use Prim.Native.Nat.{ℕ, suc, ◌+◌, ◌-◌, ◌/◌, ◌%◌, ◌≤◌, min}
use native.Mathlib.Omega.{arith}
use lib.ListN.{length}
use lib.Dec.{eqb, leb}
use borrow.Author.Tests.{eq-eqb, ne_eqb, eqb-true, eqb-false, lt-leb, leb-true, leb-false}
use Rattle.std.specs.Prelude.{Option, Some, None, is_some}
use Rattle.std.specs.Option.{option_or}
use Rattle.catalog.specs.declared.announcements.Announcement.{Announcement}
use Rattle.wire.specs.Lists.{tally, Pair, pair, same_pair}
use Rattle.catalog.specs.declared.announcements.Announcements.{Announcements}
use Rattle.catalog.specs.declared.range.Range.{Range}
use Rattle.catalog.specs.declared.rows.Row.{Row}
use Rattle.catalog.specs.Table.{announcement, row, row_list, over, part, room_beside, Leaves, Sized, key_of, key_is, Small, seen_in, has_in, is_full, put_row, dropped, released}
use Rattle.catalog.specs.Tables.{Table, table, all_rows, rows_in, laid, fresh_table, lookup, used_in, put_in, drop_in, release_in}
use Rattle.catalog.proofs.Counting.{bit, tally_bit, length_by_counts}
use Rattle.catalog.proofs.Columns.{row_list_length, rows_each, keys_of, tags_of, identities_of, columns_of}
use Rattle.catalog.proofs.Over.{over-take}
use Rattle.catalog.proofs.Ranges.{table-size, whole_part, whole_room, whole_leaves}
use Rattle.catalog.proofs.Laws as law

-- SOUND: what every operation keeps, and a fresh table has
pub record Sound (t : Table) : Type 0 where
  pub rows : law.Table 256 (rows_in t)
  pub few : t.count ≤ 256

laid_rows : (t : Table) (l : List Row) → rows_in (laid t l) ≡ l
laid_rows t l = rw (rows_each (over l (all_rows t)), over-take l (all_rows t))

laid_sound : (t : Table) (l : List Row) → law.Table 256 l → Sound (laid t l)
laid_sound t l a = record { rows = rw (laid_rows t l) a; few = a.most }

-- arrays that were laid
pub laid-is : (t : Table) (l : List Row) (n : ℕ) (a : Announcements) → n ≡ length l → row_list a ≡ over l (all_rows t) → Sized a → table n a ≡ laid t l
laid-is t l n a en er z = rw (en, ← er, keys_of a z, tags_of a z, identities_of a z, columns_of a z)

module _ (t : Table) where
  small_lookup : (h o : ℕ) → Small o → lookup t h o ≡ seen_in (key_of h o) (rows_in t)
  unfolding lookup
  small_lookup h o z = rw (lt-leb 4294967296 o z)

  found_has : (h o : ℕ) → Small o → is_some (lookup t h o) ≡ has_in (key_of h o) (rows_in t)
  found_has h o z = ap is_some (small_lookup h o z) ∙ law.found_has is_some (λ r. refl) refl (rows_in t) (key_of h o)

  pub seen_lookup : (h o : ℕ) (s : Option Announcement) → Small o → s ≡ seen_in (key_of h o) (rows_in t) → s ≡ lookup t h o
  seen_lookup h o s z e = e ∙ sym (small_lookup h o z)

  pub has_lookup : (h o : ℕ) (b : Bool) → Small o → b ≡ has_in (key_of h o) (rows_in t) → b ≡ is_some (lookup t h o)
  has_lookup h o b z e = e ∙ sym (found_has h o z)

  pub few_used : Sound t → used_in t ≤ 256
  unfolding used_in
  few_used a = a.rows.most

  pub full_used : (b : Bool) → b ≡ is_full 256 (rows_in t) → b ≡ leb 256 (used_in t)
  unfolding used_in
  full_used b e = e

  used_rows : used_in t ≡ length (rows_in t)
  unfolding used_in
  used_rows = refl

-- THE CODE, over a table that has the arrays for itself
module _ (rows : ℕ) (old : Announcements) (small : length old.keys ≡ 256) (r : Range) (e : r.from ≡ 0) (f : r.size ≡ min rows (256 - r.from)) (g : r.behind ≡ min 0 (256 - r.from - r.size)) where
  abbrev mine : List Row
  mine = part r.from r.size (row_list old)

  abbrev room : ℕ
  room = room_beside r.from r.size r.behind (row_list old)

  lists : length (row_list old) ≡ 256
  lists = row_list_length old ∙ small

  mine_is : mine ≡ rows_in (table rows old)
  mine_is = whole_part r rows (row_list old) lists e f g

  pub whole_lookup : (h o k : ℕ) (s : Option Announcement) → Small o → k ≡ key_of h o → s ≡ seen_in k mine → s ≡ lookup (table rows old) h o
  whole_lookup h o k s z q p = seen_lookup (table rows old) h o s z (rw (q, mine_is) at p)

  pub whole_has : (h o k : ℕ) (b : Bool) → Small o → k ≡ key_of h o → b ≡ has_in k mine → b ≡ is_some (lookup (table rows old) h o)
  whole_has h o k b z q p = has_lookup (table rows old) h o b z (rw (q, mine_is) at p)

  pub whole_full : leb 256 r.size ≡ leb 256 (used_in (table rows old))
  whole_full = ap (leb 256) (sym (table-size r.from r.size 0 (row_list old) (omega (arith, lists, e, f)))) ∙ full_used (table rows old) (leb 256 (length mine)) (rw mine_is)

  module _ (n : ℕ) (now : Announcements) (z : Sized now) where
    left : (m : List Row) → Leaves r.from r.size r.behind m n (row_list old) (row_list now) → table n now ≡ laid (table rows old) m
    left m s = let k = whole_leaves r rows (row_list old) lists e f g m n (row_list now) s in laid-is (table rows old) m n now k.0 k.1 z

    pub put_is : (h o k : ℕ) (a : Announcement) → k ≡ key_of h o → Leaves r.from r.size r.behind (put_row room (row k a.tag a.identity a.columns) mine) n (row_list old) (row_list now)
        → table n now ≡ put_in (table rows old) h o a.tag a.identity a.columns
    unfolding put_in
    put_is h o k a q s = left (put_row 256 (row (key_of h o) a.tag a.identity a.columns) (rows_in (table rows old))) (rw (q, mine_is, whole_room r rows (row_list old) lists e f g) at s)

    pub drop-is : (x : ℕ) → Leaves r.from r.size r.behind (dropped x mine) n (row_list old) (row_list now) → table n now ≡ drop_in (table rows old) x
    unfolding drop_in
    drop-is x s = left (dropped x (rows_in (table rows old))) (rw mine_is at s)

    pub release-is : (x : ℕ) → Leaves r.from r.size r.behind (released room x mine) n (row_list old) (row_list now) → table n now ≡ release_in (table rows old) x
    unfolding release_in
    release-is x s = left (released 256 x (rows_in (table rows old))) (rw (mine_is, whole_room r rows (row_list old) lists e f g) at s)

-- A FRESH TABLE
pub fresh_sound : Sound fresh_table
unfolding fresh_table
fresh_sound = record { rows = law.fresh 256 (omega arith); few = omega arith }

missing : (v : Bool) → ◌≡◌ {A = Option Announcement} (cond v None None) None
missing true = refl
missing false = refl

pub fresh_lookup : (h o : ℕ) → lookup fresh_table h o ≡ None
unfolding lookup fresh_table
fresh_lookup h o = ap (λ (s : Option Announcement). cond (leb 4294967296 o) None s) (law.sight 256 [] (law.fresh 256 (omega arith)) (key_of h o)) ∙ missing (leb 4294967296 o)

-- by cases of an OID that is one of 32 bits, or not
by_size : (P : Option Announcement → Option Announcement → Option Announcement → Type 0) (t t' : Table) (x u q : ℕ) → (Small q → P (seen_in (key_of u q) (rows_in t')) (seen_in (key_of x q) (rows_in t)) (seen_in (key_of u q) (rows_in t)))
    → (4294967296 ≤ q → P None None None) → P (lookup t' u q) (lookup t x q) (lookup t u q)
unfolding lookup
by_size P t t' x u q small big = go (leb 4294967296 q) refl
  where
    go : (v : Bool) → leb 4294967296 q ≡ v → P (cond v None (seen_in (key_of u q) (rows_in t'))) (cond v None (seen_in (key_of x q) (rows_in t))) (cond v None (seen_in (key_of u q) (rows_in t)))
    go true e = big (leb-true 4294967296 q e)
    go false e = small (leb-false 4294967296 q e)

module _ (t : Table) (a : Sound t) where
  -- AN ANNOUNCEMENT IS PUT
  module _ (h o g i c : ℕ) (z : Small o) (room : is_some (lookup t h o) ≡ false → leb 256 (used_in t) ≡ false) where
    free : has_in (key_of h o) (rows_in t) ≡ false → is_full 256 (rows_in t) ≡ false
    free e = ap (leb 256) (sym (used_rows t)) ∙ room (found_has t h o z ∙ e)

    pub put_sound : Sound (put_in t h o g i c)
    unfolding put_in
    put_sound = laid_sound t (put_row 256 (row (key_of h o) g i c) (rows_in t)) (law.put-table 256 (rows_in t) a.rows (row (key_of h o) g i c) free)

    pub put-lookup : (u q : ℕ) → lookup (put_in t h o g i c) u q ≡ cond (eqb h u && eqb o q) (Some (announcement g i c)) (lookup t u q)
    unfolding put_in
    put-lookup u q =
        by_size (λ after mine was. after ≡ cond (eqb h u && eqb o q) (Some (announcement g i c)) was) t (laid t (put_row 256 (row (key_of h o) g i c) (rows_in t))) h u q
        (λ s. ap (seen_in (key_of u q)) (laid_rows t (put_row 256 (row (key_of h o) g i c) (rows_in t))) ∙ law.put_seen 256 (rows_in t) a.rows (row (key_of h o) g i c) free (key_of u q) ∙ rw (law.key-same h o u q z s))
        (λ s. rw (ne_eqb o q (λ e. omega (arith, e, s, z))) (never (eqb h u)))
      where
        never : (v : Bool) → None ≡ cond (v && false) (Some (announcement g i c)) None
        never true = refl
        never false = refl

  -- A HOLDER IS GONE
  pub drop_sound : (x : ℕ) → Sound (drop_in t x)
  unfolding drop_in
  drop_sound x = laid_sound t (dropped x (rows_in t)) (law.drop-table 256 (rows_in t) a.rows x)

  pub drop-lookup : (x u q : ℕ) → lookup (drop_in t x) u q ≡ cond (eqb x u) None (lookup t u q)
  unfolding drop_in
  drop-lookup x u q =
      by_size (λ after mine was. after ≡ cond (eqb x u) None was) t (laid t (dropped x (rows_in t))) x u q
      (λ s. ap (seen_in (key_of u q)) (laid_rows t (dropped x (rows_in t))) ∙ law.drop_seen 256 (rows_in t) a.rows x u q s)
      (λ s. sym (missing (eqb x u)))

  -- A HOLDER'S BECOME COMMON
  pub release_sound : (x : ℕ) → Sound (release_in t x)
  unfolding release_in
  release_sound x = laid_sound t (released 256 x (rows_in t)) (law.release-table 256 (rows_in t) a.rows x)

  pub release-lookup : (x : ℕ) → (x ≡ 0 → ⊥) → (u q : ℕ)
      → lookup (release_in t x) u q ≡ cond (eqb u 0) (option_or (lookup t x q) (lookup t u q)) (cond (eqb x u) None (lookup t u q))
  unfolding release_in
  release-lookup x nz u q =
      by_size (λ after mine was. after ≡ cond (eqb u 0) (option_or mine was) (cond (eqb x u) None was)) t (laid t (released 256 x (rows_in t))) x u q
      (λ s. ap (seen_in (key_of u q)) (laid_rows t (released 256 x (rows_in t))) ∙ go s (eqb u 0) (eqb x u) refl refl)
      (λ s. sym (none (eqb u 0) (eqb x u)))
    where
      none : (v w : Bool) → cond v (option_or {T = Announcement} None None) (cond w None None) ≡ None
      none true w = refl
      none false w = missing w

      or_seen : (s b : Option Announcement) (v : Bool) → is_some s ≡ v → cond v s b ≡ option_or s b
      or_seen None b true e = absurd (false≢true e)
      or_seen None b false e = refl
      or_seen (Some x) b true e = refl
      or_seen (Some x) b false e = absurd (true≢false e)

      go : Small q → (v w : Bool) → eqb u 0 ≡ v → eqb x u ≡ w
          → seen_in (key_of u q) (released 256 x (rows_in t)) ≡ cond v (option_or (seen_in (key_of x q) (rows_in t)) (seen_in (key_of u q) (rows_in t))) (cond w None (seen_in (key_of u q) (rows_in t)))
      go s true w ev ew =
          rw (eqb-true u 0 ev)
          (law.release-common 256 (rows_in t) a.rows x nz q s
          ∙ or_seen (seen_in (key_of x q) (rows_in t)) (seen_in (key_of 0 q) (rows_in t)) (has_in (key_of x q) (rows_in t)) (law.found_has is_some (λ r. refl) refl (rows_in t) (key_of x q)))
      go s false true ev ew = rw (← eqb-true x u ew) (law.release-own 256 (rows_in t) a.rows x nz q s)
      go s false false ev ew = law.release_other 256 (rows_in t) a.rows x nz q s u (eqb-false u 0 ev) (eqb-false x u ew)

-- HOW MANY: as long as a list that has each pair that is found, once, and no other

pub same_eq : (k m : Pair) → same_pair k m ≡ true → k ≡ m
same_eq (pair t o) (pair u r) e = go (eqb u t) (eqb r o) refl refl
  where
    go : (v w : Bool) → eqb u t ≡ v → eqb r o ≡ w → pair t o ≡ pair u r
    go true true a b = ap₂ pair (sym (eqb-true u t a)) (sym (eqb-true r o b))
    go true false a b = absurd (false≢true (rw (a, b) at e))
    go false w a b = absurd (false≢true (rw a at e))

pub same_refl : (k : Pair) → same_pair k k ≡ true
same_refl (pair t o) = rw (eq-eqb t t refl, eq-eqb o o refl)

abbrev row_pairs : List Row → List Pair
row_pairs [] = []
row_pairs (r ∷ l) = pair (r.key / 4294967296) (r.key % 4294967296) ∷ row_pairs l

row_pairs_length : (l : List Row) → length (row_pairs l) ≡ length l
row_pairs_length [] = refl
row_pairs_length (r ∷ l) = ap suc (row_pairs_length l)

row_pairs_tally : (t o : ℕ) → Small o → (l : List Row) → tally (same_pair (pair t o)) (row_pairs l) ≡ tally (key_is (key_of t o)) l
row_pairs_tally t o z [] = refl
row_pairs_tally t o z (r ∷ l) = rw (row_pairs_tally t o z l, law.key-parts r.key t o z)

row_pairs_none : (t o : ℕ) → 4294967296 ≤ o → (l : List Row) → tally (same_pair (pair t o)) (row_pairs l) ≡ 0
row_pairs_none t o z [] = refl
row_pairs_none t o z (r ∷ l) = rw (row_pairs_none t o z l, ne_eqb (r.key % 4294967296) o (λ e. omega arith)) (go (eqb (r.key / 4294967296) t))
  where
    go : (v : Bool) → cond (v && false) 1 0 + 0 ≡ 0
    go true = refl
    go false = refl

pub used_by_counts : (t : Table) → Sound t → (l : List Pair) → ((h o : ℕ) → tally (same_pair (pair h o)) l ≡ bit (is_some (lookup t h o))) → length l ≡ used_in t
unfolding used_in
used_by_counts t a l counts = length_by_counts same_pair same_eq same_refl l (row_pairs (rows_in t)) same ∙ row_pairs_length (rows_in t)
  where
    same : (x : Pair) → tally (same_pair x) l ≡ tally (same_pair x) (row_pairs (rows_in t))
    same (pair h o) =
        counts h o
        ∙ by_size (λ after mine was. bit (is_some was) ≡ tally (same_pair (pair h o)) (row_pairs (rows_in t))) t t h h o
        (λ s. sym (row_pairs_tally h o s (rows_in t) ∙ tally_bit (key_is (key_of h o)) (rows_in t) (law.once 256 (rows_in t) a.rows (key_of h o))
        ∙ ap bit (sym (law.has 256 (rows_in t) a.rows (key_of h o)) ∙ sym (law.found_has is_some (λ r. refl) refl (rows_in t) (key_of h o)))))
        (λ s. sym (row_pairs_none h o s (rows_in t)))
