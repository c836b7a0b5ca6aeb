-- A table that is a range of the rows: the search in it, and what a change of it makes of the rows. Assumes nothing.
use mathlib.Core.Path.{◌≡◌, refl, sym, ◌∙◌, ap}
use mathlib.Core.List.{List, [], ◌∷◌, ◌++◌, append_assoc, append-nil}
use mathlib.Core.Bool.{Bool, true, false, cond, ◌&&◌, true≢false, false≢true}
use Prim.Native.Nat.{ℕ, zero, suc, ◌+◌, ◌-◌, ◌/◌, ◌≤◌, ◌<◌, min}
use native.Mathlib.Omega.{arith}
use native.Mathlib.Nat.{zero-add, suc-add}
use lib.Dec.{eqb, ltb, leb}
use lib.ListN.{length, take, drop, get_or, set, length-append, length-take, length-drop, length-set, take-append-drop, drop_of_length-le}
use lib.Seq.{take-add, take-append-add, drop-append-add, take-append-le, drop-append-le, take-nil, take_all, get_or-take, get_or-drop, length-take-le, set-append_left}
use borrow.Author.Tests.{lt-ltb, le-ltb, ltb-true, ltb-false, le-leb, lt-leb, leb-true, leb-false}
use Rattle.std.specs.Prelude.{Some, None}
use Rattle.catalog.specs.declared.announcements.Announcements.{Announcements}
use Rattle.catalog.specs.declared.range.Range.{Range}
use Rattle.catalog.specs.declared.rows.Row.{Row}
use Rattle.catalog.specs.Table.{announcement, row, row_list, no_row, over, part, within, room_beside, Leaves, looked, seek, key_at, place_in, is_at, found_in, seen_in, has_in, is_full, insert_at, put_row}
use Rattle.catalog.proofs.Columns.{row_list_length, rows_at}
use Rattle.catalog.proofs.Seek.{seek_zero, seek_look, seek-same, seek-ends}
use Rattle.catalog.proofs.Over.{over_self, insert-length}

-- THE SEARCH

module _ (at : ℕ → ℕ) (k c : ℕ) where
  looked_shift : (base size : ℕ) → looked at k (c + base) size ≡ c + looked (λ i. at (c + i)) k base size
  looked_shift base size =
      go (eqb size 0) (ltb (at (c + base + (size - 1) / 2)) k) (ltb (at (c + (base + (size - 1) / 2))) k)
      (ap (λ (i : ℕ). ltb (at i) k) (let e : c + base + (size - 1) / 2 ≡ c + (base + (size - 1) / 2) = omega arith in e))
    where
      go : (u v v' : Bool) → v ≡ v' → cond u (c + base) (cond v (c + base + (size - 1) / 2 + 1) (c + base)) ≡ c + cond u base (cond v' (base + (size - 1) / 2 + 1) base)
      go true v v' e = refl
      go false true true e = omega arith
      go false true false e = absurd (true≢false e)
      go false false true e = absurd (false≢true e)
      go false false false e = refl

  seek_shift : (n base size : ℕ) → seek n at k (c + base) size ≡ c + seek n (λ i. at (c + i)) k base size
  seek_shift zero base size = seek_zero at k (c + base) size ∙ ap (λ (x : ℕ). c + x) (sym (seek_zero (λ i. at (c + i)) k base size))
  seek_shift (suc n) base size =
      seek_look at k n (c + base) size
      ∙ ap (λ (b : ℕ). seek n at k b (size / 2)) (looked_shift base size)
      ∙ seek_shift n (looked (λ i. at (c + i)) k base size) (size / 2)
      ∙ ap (λ (x : ℕ). c + x) (sym (seek_look (λ i. at (c + i)) k n base size))

module _ (a : Announcements) (from size : ℕ) (fits : from + size ≤ length a.keys) where
  abbrev mine : List Row
  mine = part from size (row_list a)

  pub mine_size : length mine ≡ size
  mine_size = let n = length-take size (drop from (row_list a)) in let m = length-drop from (row_list a) in let c = row_list_length a in omega arith

  mine_at : (i : ℕ) → i < size → get_or mine i no_row ≡ row (get_or a.keys (from + i) 0) (get_or a.tags (from + i) 0) (get_or a.identities (from + i) 0) (get_or a.columns (from + i) 0)
  mine_at i h = get_or-take size (drop from (row_list a)) i no_row h ∙ get_or-drop from (row_list a) i no_row ∙ rows_at a.keys a.tags a.identities a.columns (from + i) (omega arith)

  module _ (k at : ℕ) (place : at ≡ seek 9 (λ i. get_or a.keys i 0) k from size) where
    pub place_here : at ≡ from + place_in k mine
    place_here =
        let z : from ≡ from + 0 = omega arith in
        place
        ∙ ap (λ (b : ℕ). seek 9 (λ i. get_or a.keys i 0) k b size) z
        ∙ seek_shift (λ i. get_or a.keys i 0) k from 9 0 size
        ∙ ap (λ (x : ℕ). from + x) (seek-same (λ i. get_or a.keys (from + i) 0) (key_at mine) k 9 0 size (λ i h b. sym (ap (λ (r : Row). r.key) (mine_at i (omega arith)))))
        ∙ ap (λ (n : ℕ). from + seek 9 (key_at mine) k 0 n) (sym mine_size)

    pub place_most : at ≤ from + size
    place_most = omega (arith, place, (seek-ends (λ i. get_or a.keys i 0) k 9 from size).1)

    -- whether the key is there
    at_here : (p : ℕ) → at ≡ from + p → (v : Bool) → ltb p size ≡ v → ltb at (from + size) && eqb (get_or a.keys at 0) k ≡ is_at k p mine
    at_here p q true w =
        let h = ltb-true p size w in
        rw (q, lt-ltb (from + p) (from + size) (omega arith), mine_size, w, ap (λ (r : Row). r.key) (mine_at p h))
    at_here p q false w = let h = ltb-false p size w in rw (q, le-ltb (from + p) (from + size) (omega arith), mine_size, w)

    module _ (b : Bool) (test : b ≡ ltb at (from + size) && eqb (get_or a.keys at 0) k) where
      pub has_here : b ≡ has_in k mine
      has_here = test ∙ at_here (place_in k mine) place_here (ltb (place_in k mine) size) refl

      -- a place that has it
      pub at_inside : b ≡ true → place_in k mine < size
      at_inside e = go (ltb (place_in k mine) (length mine)) refl
        where
          go : (v : Bool) → ltb (place_in k mine) (length mine) ≡ v → place_in k mine < size
          go true w = omega (arith, ltb-true (place_in k mine) (length mine) w, mine_size)
          go false w = let z : ◌≡◌ {A = Bool} false true = (rw w at (sym has_here ∙ e)) in absurd (false≢true z)

      pub seen_here : b ≡ true → Some (announcement (get_or a.tags at 0) (get_or a.identities at 0) (get_or a.columns at 0)) ≡ seen_in k mine
      seen_here e = rw (sym has_here ∙ e, place_here) (ap found_in (sym (mine_at (place_in k mine) (at_inside e))))

      pub seen_none : b ≡ false → None ≡ seen_in k mine
      seen_none e = rw (sym has_here ∙ e)

-- A CHANGE OF THE ROWS THERE

set_behind : (a l : List Row) (p : ℕ) (r : Row) → set (a ++ l) (length a + p) r ≡ a ++ set l p r
set_behind [] l p r = ap (λ (i : ℕ). set l i r) (zero-add p)
set_behind (x ∷ a) l p r = ap (λ (i : ℕ). set (x ∷ (a ++ l)) i r) (suc-add (length a) p) ∙ ap (λ (m : List Row). x ∷ m) (set_behind a l p r)

insert-inside : (a m b : List Row) (p : ℕ) (r : Row) → p ≤ length m → insert_at (length a + p) r (a ++ (m ++ b)) ≡ a ++ (insert_at p r m ++ b)
insert-inside a m b p r h =
    rw (take-append-add a (m ++ b) p, drop-append-add a (m ++ b) p, take-append-le p m b h, drop-append-le p m b h)
    (append_assoc a (take p m) (r ∷ (drop p m ++ b)) ∙ ap (λ (l : List Row). a ++ l) (sym (append_assoc (take p m) (r ∷ drop p m) b)))

module _ (from size behind : ℕ) (old : List Row) (fits : from + size + behind ≤ length old) where
  abbrev table : List Row
  table = part from size old

  abbrev others : List Row
  others = part (from + size) behind old

  before_size : length (take from old) ≡ from
  before_size = length-take-le from old (omega arith)

  pub table-size : length table ≡ size
  table-size = let a = length-take size (drop from old) in let b = length-drop from old in omega arith

  others_size : length others ≡ behind
  others_size = let a = length-take behind (drop (from + size) old) in let b = length-drop (from + size) old in omega arith

  pub room-is : room_beside from size behind old ≡ 256 - (from + behind)
  room-is = rw (before_size, others_size)

  pub within-size : (m : List Row) → length (within from size behind m old) ≡ from + length m + behind
  within-size m =
      length-append (take from old) (m ++ others)
      ∙ (let a = length-append m others in let b = before_size in let c = others_size in omega arith)

  -- as they were
  in_use : take (from + size + behind) old ≡ within from size behind table old
  in_use =
      take-add (from + size) behind old
      ∙ ap (λ (l : List Row). l ++ others) (take-add from size old)
      ∙ append_assoc (take from old) table others

  stays : old ≡ over (within from size behind table old) old
  stays = sym (ap (λ (l : List Row). over l old) (sym in_use) ∙ over_self (from + size + behind) old)

  pub unchanged : Leaves from size behind table size old old
  unchanged = record { number = sym table-size; content = stays }

  stored : (p : ℕ) (r : Row) → p < size → set old (from + p) r ≡ over (within from size behind (set table p r) old) old
  stored p r h =
      let n : length (within from size behind table old) ≡ from + size + behind = within-size table ∙ rw table-size in
      let w : length (within from size behind (set table p r) old) ≡ from + size + behind = within-size (set table p r) ∙ rw (length-set table p r, table-size) in
      let u : set (within from size behind table old) (from + p) r ≡ within from size behind (set table p r) old =
      ap (λ (x : ℕ). set (within from size behind table old) (x + p) r) (sym before_size)
      ∙ set_behind (take from old) (table ++ others) p r
      ∙ ap (λ (l : List Row). take from old ++ l) (set-append_left table others p r (omega (arith, table-size))) in
      ap (λ (l : List Row). set l (from + p) r) (sym (take-append-drop (from + size + behind) old) ∙ ap (λ (l : List Row). l ++ drop (from + size + behind) old) in_use)
      ∙ set-append_left (within from size behind table old) (drop (from + size + behind) old) (from + p) r (omega (arith, n))
      ∙ rw (u, w)

  inserted : (p : ℕ) (r : Row) → p ≤ size → insert_at (from + p) r (take (from + size + behind) old) ≡ within from size behind (insert_at p r table) old
  inserted p r h =
      ap (λ (l : List Row). insert_at (from + p) r l) in_use
      ∙ ap (λ (x : ℕ). insert_at (x + p) r (within from size behind table old)) (sym before_size)
      ∙ insert-inside (take from old) table others p r (omega (arith, table-size))

  -- what a row put there leaves
  module _ (r : Row) (at : ℕ) (place : at ≡ from + place_in r.key table) where
    abbrev after : List Row
    after = put_row (room_beside from size behind old) r table

    pub put_known : has_in r.key table ≡ true → place_in r.key table < size → Leaves from size behind after size old (set old at r)
    put_known e h =
        let q : after ≡ set table (place_in r.key table) r = rw e in
        record { number = rw (q, length-set table (place_in r.key table) r) (sym table-size); content = rw (q, place) (stored (place_in r.key table) r h) }

    pub put-new : has_in r.key table ≡ false → from + size + behind < 256 → at ≤ from + size
        → Leaves from size behind after (size + 1) old (over (insert_at at r (take (from + size + behind) old)) old)
    put-new e h m =
        let f : is_full (room_beside from size behind old) table ≡ false = lt-leb (room_beside from size behind old) (length table) (omega (arith, table-size, room-is, h)) in
        let q : after ≡ insert_at (place_in r.key table) r table = rw (e, f) in
        record {
          number = rw q (sym (insert-length (place_in r.key table) r table ∙ rw table-size (omega arith)));
          content = rw (q, place) (ap (λ (l : List Row). over l old) (inserted (place_in r.key table) r (omega (arith, place, m))));
        }

    pub put-none : has_in r.key table ≡ false → 256 ≤ from + size + behind → Leaves from size behind after size old old
    put-none e h =
        let f : is_full (room_beside from size behind old) table ≡ true = le-leb (room_beside from size behind old) (length table) (omega (arith, table-size, room-is, h)) in
        let q : after ≡ table = rw (e, f) in
        rw q unchanged

-- a row put where a search of the arrays ended
module _ (a : Announcements) (from size behind : ℕ) (small : length a.keys ≡ 256) (fits : from + size + behind ≤ 256) (r : Row) (at : ℕ) (place : at ≡ seek 9 (λ i. get_or a.keys i 0) r.key from size)
    (b : Bool) (test : b ≡ ltb at (from + size) && eqb (get_or a.keys at 0) r.key) where
  inside : from + size ≤ length a.keys
  inside = omega arith

  all : from + size + behind ≤ length (row_list a)
  all = omega (arith, row_list_length a)

  abbrev put : List Row
  put = put_row (room_beside from size behind (row_list a)) r (part from size (row_list a))

  here : at ≡ from + place_in r.key (part from size (row_list a))
  here = place_here a from size inside r.key at place

  has : b ≡ has_in r.key (part from size (row_list a))
  has = has_here a from size inside r.key at place b test

  pub put_there : b ≡ true → Leaves from size behind put size (row_list a) (set (row_list a) at r)
  put_there e = put_known from size behind (row_list a) all r at here (sym has ∙ e) (at_inside a from size inside r.key at place b test e)

  pub put_between : b ≡ false → (n : ℕ) → n ≡ from + size + behind → n < 256 → Leaves from size behind put (size + 1) (row_list a) (over (insert_at at r (take n (row_list a))) (row_list a))
  put_between e n q h = rw q (put-new from size behind (row_list a) all r at here (sym has ∙ e) (omega arith) (place_most a from size inside r.key at place))

  pub put_nowhere : b ≡ false → 256 ≤ from + size + behind → Leaves from size behind put size (row_list a) (row_list a)
  put_nowhere e h = put-none from size behind (row_list a) all r at here (sym has ∙ e) h

-- NUMBERS THAT GO PAST THE ARRAYS end with them
module _ (from size behind start mine others : ℕ) (l : List Row) (n : length l ≡ 256) (e : start ≡ min from 256) (f : mine ≡ min size (256 - start)) where
  pub take_clamped : take start l ≡ take from l
  take_clamped = go (leb from 256) refl
    where
      go : (v : Bool) → leb from 256 ≡ v → take start l ≡ take from l
      go true w = let q : start ≡ from = omega (arith, leb-true from 256 w) in rw q
      go false w = let h = leb-false from 256 w in take_all start l (omega arith) ∙ sym (take_all from l (omega arith))

  past : (x y : ℕ) → 256 ≤ x → part x y l ≡ []
  past x y h = rw (drop_of_length-le l {i = x} (omega arith)) (take-nil y)

  pub part_clamped : part start mine l ≡ part from size l
  part_clamped = go (leb from 256) (leb size (256 - start)) refl refl
    where
      go : (u v : Bool) → leb from 256 ≡ u → leb size (256 - start) ≡ v → part start mine l ≡ part from size l
      go true true a b = let p : start ≡ from = omega (arith, leb-true from 256 a) in let q : mine ≡ size = omega (arith, leb-true size (256 - start) b) in rw (p, q)
      go true false a b =
          let p : start ≡ from = omega (arith, leb-true from 256 a) in
          let h = leb-false size (256 - start) b in
          let d = length-drop from l in
          rw p (take_all mine (drop from l) (omega arith) ∙ sym (take_all size (drop from l) (omega arith)))
      go false v a b = let h = leb-false from 256 a in past start mine (omega arith) ∙ sym (past from size (omega arith))

  pub others_clamped : others ≡ min behind (256 - start - mine) → part (start + mine) others l ≡ part (from + size) behind l
  others_clamped g = go (leb (from + size) 256) (leb behind (256 - start - mine)) refl refl
    where
      go : (u v : Bool) → leb (from + size) 256 ≡ u → leb behind (256 - start - mine) ≡ v → part (start + mine) others l ≡ part (from + size) behind l
      go true true a b =
          let h = leb-true (from + size) 256 a in
          let p : start + mine ≡ from + size = omega arith in let q : others ≡ behind = omega (arith, leb-true behind (256 - start - mine) b) in rw (p, q)
      go true false a b =
          let h = leb-true (from + size) 256 a in
          let p : start + mine ≡ from + size = omega arith in
          let k = leb-false behind (256 - start - mine) b in
          let d = length-drop (from + size) l in
          rw p (take_all others (drop (from + size) l) (omega arith) ∙ sym (take_all behind (drop (from + size) l) (omega arith)))
      go false v a b = let h = leb-false (from + size) 256 a in past (start + mine) others (omega arith) ∙ sym (past (from + size) behind (omega arith))

  pub leaves_clamped : others ≡ min behind (256 - start - mine) → (m : List Row) (count : ℕ) (rows : List Row) → Leaves start mine others m count l rows → Leaves from size behind m count l rows
  leaves_clamped g m count rows e = record { number = e.number; content = rw (← take_clamped, ← others_clamped g) e.content }

-- A TABLE THAT HAS THE ARRAYS FOR ITSELF
module _ (r : Range) (rows : ℕ) (l : List Row) (n : length l ≡ 256) (e : r.from ≡ 0) (f : r.size ≡ min rows (256 - r.from)) (g : r.behind ≡ min 0 (256 - r.from - r.size)) where
  pub whole_part : part r.from r.size l ≡ take rows l
  whole_part = part_clamped 0 rows 0 r.from r.size r.behind l n e f

  pub whole_room : room_beside r.from r.size r.behind l ≡ 256
  whole_room = rw (take_clamped 0 rows 0 r.from r.size r.behind l n e f, others_clamped 0 rows 0 r.from r.size r.behind l n e f g)

  pub whole_leaves : (m : List Row) (count : ℕ) (now : List Row) → Leaves r.from r.size r.behind m count l now → (count ≡ length m) × (now ≡ over m l)
  whole_leaves m count now s =
      let k = leaves_clamped 0 rows 0 r.from r.size r.behind l n e f g m count now s in
      (k.number, k.content ∙ ap (λ (x : List Row). over x l) (append-nil m))
