-- What dropping a holder's rows, and putting several one after the other, makes of a table that is a range. Assumes nothing.
use mathlib.Core.Path.{◌≡◌, refl, sym, ◌∙◌, ap}
use mathlib.Core.List.{List, [], ◌∷◌, ◌++◌, append_assoc}
use mathlib.Core.Bool.{Bool, true, false, cond}
use Prim.Native.Nat.{ℕ, suc, ◌+◌, ◌-◌, ◌≤◌, ◌<◌}
use native.Mathlib.Omega.{arith}
use lib.ListN.{length, take, drop, get_or, set, length-append, length-set, drop_of_length-le}
use lib.Seq.{take_at, drop_at, drop-cons, drop-drop, get_or-take, get_or-drop, length-take-le}
use borrow.Author.Tests.{leb-false}
use Rattle.wire.specs.Lists.{keep, change}
use Rattle.catalog.specs.declared.rows.Row.{Row}
use Rattle.catalog.specs.Table.{no_row, over, part, within, room_beside, Leaves, is_full, has_in, place_in, insert_at, put_row, put_all, held_by, not_held_by, dropped, common_row, released}
use Rattle.catalog.proofs.Sorted.{keep_most}
use Rattle.catalog.proofs.Over.{over-take, over-drop, over-over, insert-length}
use Rattle.catalog.proofs.Ranges.{table-size, room-is, within-size}

-- A CHANGE OF A TABLE THAT WAS CHANGED
module _ (from size behind : ℕ) (old now : List Row) (fits : from + size + behind ≤ length old) where
  abbrev rows : List Row
  rows = over (within from size behind now old) old

  apart : rows ≡ take from old ++ (now ++ (part (from + size) behind old ++ drop (length (within from size behind now old)) old))
  apart =
      append_assoc (take from old) (now ++ part (from + size) behind old) (drop (length (within from size behind now old)) old)
      ∙ ap (λ (l : List Row). take from old ++ l) (append_assoc now (part (from + size) behind old) (drop (length (within from size behind now old)) old))

  before_size : length (take from old) ≡ from
  before_size = length-take-le from old (omega arith)

  again_before : take from rows ≡ take from old
  again_before = ap (take from) apart ∙ take_at (take from old) _ from before_size

  again_from : drop from rows ≡ now ++ (part (from + size) behind old ++ drop (length (within from size behind now old)) old)
  again_from = ap (drop from) apart ∙ drop_at (take from old) _ from before_size

  pub again_table : part from (length now) rows ≡ now
  again_table = ap (take (length now)) again_from ∙ take_at now _ (length now) refl

  again_others : part (from + length now) behind rows ≡ part (from + size) behind old
  again_others =
      let o : length (part (from + size) behind old) ≡ behind = table-size (from + size) behind 0 old (omega arith) in
      ap (take behind) (sym (drop-drop (length now) from rows) ∙ ap (drop (length now)) again_from ∙ drop_at now _ (length now) refl)
      ∙ take_at (part (from + size) behind old) _ behind o

  pub again_room : room_beside from (length now) behind rows ≡ room_beside from size behind old
  again_room = rw (again_before, again_others)

  pub again_leaves : (m rows' : List Row) (count : ℕ) → length now ≤ length m → Leaves from (length now) behind m count rows rows' → Leaves from size behind m count old rows'
  again_leaves m rows' count h e = record {
    number = e.number;
    content = e.content ∙ rw (again_before, again_others) (over-over (within from size behind m old) (within from size behind now old) old
        (omega (arith, h, within-size from size behind old fits now, within-size from size behind old fits m)));
  }

-- A HOLDER'S ROWS ARE DROPPED, and the rows behind the table moved up to it
pub drop_leaves : (from size behind t : ℕ) (old rows rows' : List Row) (kept : ℕ) → from + size + behind ≤ length old
    → kept ≡ from + length (dropped t (part from size old)) → rows ≡ over (take from old ++ dropped t (part from size old)) old
    → rows' ≡ over (take kept rows ++ part (from + size) behind rows) rows
    → Leaves from size behind (dropped t (part from size old)) (kept - from) old rows'
drop_leaves from size behind t old rows rows' kept fits k e f =
    let d = dropped t (part from size old) in
    let l : length (take from old ++ d) ≡ kept = length-append (take from old) d ∙ (let a = length-take-le from old (omega arith) in omega arith) in
    let m = keep_most (not_held_by t) (part from size old) in
    let s = table-size from size behind old fits in
    let a : take kept rows ≡ take from old ++ d = rw (e, ← l) (over-take (take from old ++ d) old) in
    let b : part (from + size) behind rows ≡ part (from + size) behind old = rw e (ap (take behind) (over-drop (take from old ++ d) old (from + size) (omega arith))) in
    let w : take kept rows ++ part (from + size) behind rows ≡ within from size behind d old = rw (a, b) (append_assoc (take from old) d (part (from + size) behind old)) in
    record {
      number = omega arith;
      content = f ∙ rw (w, e) (over-over (within from size behind d old) (take from old ++ d) old (omega (arith, l, within-size from size behind old fits d)));
    }

-- SEVERAL ROWS ARE PUT

put_lengths : (room : ℕ) (r : Row) (l : List Row) → length l ≤ room → (length l ≤ length (put_row room r l)) × (length (put_row room r l) ≤ room)
put_lengths room r l h = go (has_in r.key l) (is_full room l) refl
  where
    go : (u v : Bool) → is_full room l ≡ v → (length l ≤ length (cond u (set l (place_in r.key l) r) (cond v l (insert_at (place_in r.key l) r l))))
        × (length (cond u (set l (place_in r.key l) r) (cond v l (insert_at (place_in r.key l) r l))) ≤ room)
    go true v e = let n = length-set l (place_in r.key l) r in (omega arith, omega arith)
    go false true e = (omega arith, h)
    go false false e = let n = insert-length (place_in r.key l) r l in let m = leb-false room (length l) e in (omega arith, omega arith)

put_all_most : (room : ℕ) (rs l : List Row) → length l ≤ room → length (put_all room rs l) ≤ room
put_all_most room [] l h = h
put_all_most room (r ∷ rs) l h = put_all_most room rs (put_row room r l) (put_lengths room r l h).1

pub record Putting (from size behind t : ℕ) (old rows : List Row) (after i : ℕ) : Type 0 where
  pub now : List Row
  pub low : from ≤ i
  pub is : rows ≡ over (within from size behind now old) old
  pub count : after ≡ length now
  pub most : length now ≤ room_beside from size behind old
  pub rest : put_all (room_beside from size behind old) (change common_row (keep (held_by t) (drop (i - from) (part from size old)))) now
      ≡ released (room_beside from size behind old) t (part from size old)

module _ (from size behind t : ℕ) (old : List Row) (fits : from + size + behind ≤ length old) (small : length old ≡ 256) where
  pub putting_start : (rows : List Row) (after : ℕ) → Leaves from size behind (dropped t (part from size old)) after old rows → Putting from size behind t old rows after from
  putting_start rows after e = record {
    now = dropped t (part from size old);
    low = omega arith;
    is = e.content;
    count = e.number;
    most = let m = keep_most (not_held_by t) (part from size old) in let s = table-size from size behind old fits in omega (arith, room-is from size behind old fits);
    rest = let z : from - from ≡ 0 = omega arith in rw z;
  }

  pub putting_room : (rows : List Row) (after i : ℕ) → Putting from size behind t old rows after i → from + after + behind ≤ 256
  putting_room rows after i s = omega (arith, s.count, s.most, room-is from size behind old fits)

  module _ (rows : List Row) (after i : ℕ) (s : Putting from size behind t old rows after i) (b : i < from + size) where
    abbrev room : ℕ
    room = room_beside from size behind old

    abbrev next : Row
    next = get_or old i no_row

    ahead : drop (i - from) (part from size old) ≡ next ∷ drop (i + 1 - from) (part from size old)
    ahead =
        let l = s.low in
        let e : i + 1 - from ≡ suc (i - from) = omega arith in
        let f : from + (i - from) ≡ i = omega arith in
        drop-cons (part from size old) (i - from) no_row (omega (arith, table-size from size behind old fits))
        ∙ rw (e, get_or-take size (drop from old) (i - from) no_row (omega arith), get_or-drop from old (i - from) no_row, f)

    pub putting_turn : (rows' : List Row) (after' : ℕ)
        → Leaves from after behind (cond (held_by t next) (put_row (room_beside from after behind rows) (common_row next) (part from after rows)) (part from after rows)) after' rows rows'
        → Putting from size behind t old rows' after' (i + 1)
    putting_turn rows' after' e = go (held_by t next) refl (rw (s.is, s.count, again_room from size behind old s.now fits, again_table from size behind old s.now fits) at e)
      where
        go : (v : Bool) → held_by t next ≡ v
            → Leaves from (length s.now) behind (cond v (put_row room (common_row next) s.now) s.now) after' (over (within from size behind s.now old) old) rows'
            → Putting from size behind t old rows' after' (i + 1)
        go true h e =
            let k = put_lengths room (common_row next) s.now s.most in
            let q = again_leaves from size behind old s.now fits (put_row room (common_row next) s.now) rows' after' k.0 e in
            record { now = put_row room (common_row next) s.now; low = omega (arith, s.low); is = q.content; count = q.number; most = k.1; rest = (rw (ahead, h) at s.rest) }
        go false h e =
            let q = again_leaves from size behind old s.now fits s.now rows' after' (omega arith) e in
            record { now = s.now; low = omega (arith, s.low); is = q.content; count = q.number; most = s.most; rest = (rw (ahead, h) at s.rest) }

  pub putting_end : (rows : List Row) (after i : ℕ) → Putting from size behind t old rows after i → from + size ≤ i
      → Leaves from size behind (released (room_beside from size behind old) t (part from size old)) after old rows
  putting_end rows after i s h =
      let z = drop_of_length-le (part from size old) {i = i - from} (omega (arith, table-size from size behind old fits)) in
      let m : s.now ≡ released (room_beside from size behind old) t (part from size old) = (rw z at s.rest) in
      record { number = s.count ∙ ap length m; content = s.is ∙ ap (λ (l : List Row). over (within from size behind l old) old) m }

-- what is left fits the arrays
module _ (from size behind : ℕ) (old : List Row) (fits : from + size + behind ≤ length old) where
  mine_fits : length old ≡ 256 → length (part from size old) ≤ room_beside from size behind old
  mine_fits small = omega (arith, table-size from size behind old fits, room-is from size behind old fits)

  pub put-fits : (r : Row) → length old ≡ 256 → length (put_row (room_beside from size behind old) r (part from size old)) ≤ 256
  put-fits r small = omega (arith, (put_lengths (room_beside from size behind old) r (part from size old) (mine_fits small)).1, room-is from size behind old fits)

  pub release-fits : (t : ℕ) → length old ≡ 256 → length (released (room_beside from size behind old) t (part from size old)) ≤ 256
  release-fits t small =
      omega (
        arith,
        room-is from size behind old fits,
        put_all_most (room_beside from size behind old) (change common_row (keep (held_by t) (part from size old))) (dropped t (part from size old))
            (omega (arith, mine_fits small, keep_most (not_held_by t) (part from size old))),
      )
