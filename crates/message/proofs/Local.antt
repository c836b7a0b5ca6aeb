-- Reading depends only on the bytes that it passes: where they lie elsewhere, it gives the same there. Assumes nothing.
use Prim.Native.Nat.{ℕ, zero, suc, ◌+◌, ◌-◌, ◌<◌, ◌≤◌}
use mathlib.Core.List.{List, [], ◌∷◌}
use mathlib.Core.Bool.{Bool, true, false, cond}
use mathlib.Core.Path.{◌≡◌, refl, sym, ◌∙◌, ap}
use native.Mathlib.Omega.{arith}
use lib.ListN.{length, get_or, drop, length-drop}
use lib.Seq.{get_or-drop, get_or-take, length-take-le, ext_get_or}
use Rattle.wire.specs.Cursors.{Cursor, Taken, refuse}
use Rattle.std.specs.Prelude.{Ok, Err}
use Rattle.wire.specs.Numbers.{be}
use Rattle.wire.specs.Fields.{number_field, letter_field, text_field, bytes_field, value_field, until_zero, member, in_range}
use Rattle.wire.proofs.There.{no, number_inv, number_read, number_off, letter_inv, letter_read, letter_off, text_inv, text_read, text_off, bytes_inv, bytes_read, bytes_off, until_before, until_zero_lem, until_is}
use Rattle.message.specs.Layout.{Field, Part, number, constant, letter, text, value, column, one, block_xid, groups, tuple, optional_tuple, read_field, read_group, read_part, read_fields, times, groups_end, tuple_end, column_end, xid_field, optional, column_letters, has_value, most_columns}
use Rattle.message.specs.Encode.{cut}
use Rattle.message.proofs.Accepted.{reached}

-- ys has from b on the n bytes that xs has from a on
pub record Agree (xs : List ℕ) (a : ℕ) (ys : List ℕ) (b n : ℕ) : Type 0 where
  pub here : n ≤ length xs - a
  pub there : b + n ≤ length ys
  pub same : (i : ℕ) → i < n → get_or ys (b + i) 0 ≡ get_or xs (a + i) 0

module _ {xs ys : List ℕ} {a b : ℕ} where
  pub fewer : (n m : ℕ) → m ≤ n → Agree xs a ys b n → Agree xs a ys b m
  fewer n m h g = record { here = omega (arith, g.here); there = omega (arith, g.there); same = λ i k. g.same i (omega arith) }

  pub beyond : (n m k a' b' : ℕ) → m + k ≤ n → a' ≡ a + m → b' ≡ b + m → Agree xs a ys b n → Agree xs a' ys b' k
  beyond n m k a' b' h p q g =
      record {
        here = omega (arith, g.here);
        there = omega (arith, g.there);
        same = λ i l.
            let e : a' + i ≡ a + (m + i) = omega arith in
            let f : b' + i ≡ b + (m + i) = omega arith in
            rw (e, f) (g.same (m + i) (omega arith));
      }

  pub cut-same : (n : ℕ) → Agree xs a ys b n → cut ys b n ≡ cut xs a n
  cut-same n g =
      let h : n ≤ length (drop b ys) = simp length-drop (omega (arith, g.there)) in
      let k : n ≤ length (drop a xs) = simp length-drop (omega (arith, g.here)) in
      let p : length (cut ys b n) ≡ n = length-take-le n (drop b ys) h in
      let q : length (cut xs a n) ≡ n = length-take-le n (drop a xs) k in
      ext_get_or 0 (cut ys b n) (cut xs a n) (p ∙ sym q)
      (λ i l. let j : i < n = omega arith in rw (get_or-take n (drop b ys) i 0 j, get_or-take n (drop a xs) i 0 j, get_or-drop, get_or-drop) (g.same i j))

  same_byte : Agree xs a ys b 1 → get_or ys b 0 ≡ get_or xs a 0
  same_byte g = let p : b + 0 ≡ b = omega arith in let q : a + 0 ≡ a = omega arith in rw (p, q) at (g.same 0 (omega arith))

  be-same : (w : ℕ) → Agree xs a ys b w → be w ys b ≡ be w xs a
  unfolding be
  be-same zero g = refl
  be-same (suc k) g = rw (be-same k (fewer (suc k) k (omega arith) g), g.same k (omega arith))

-- reading stays refused, goes ahead, ends inside, and gives the same elsewhere
pub record Local (F : List ℕ → Cursor → Cursor) : Type 0 where
  pub stays : (xs : List ℕ) (n o : ℕ) → F xs (refuse n o) ≡ refuse n o
  pub ahead : (xs : List ℕ) (a e : ℕ) → F xs (Ok a) ≡ Ok e → a ≤ e
  pub late : (xs : List ℕ) (a n o : ℕ) → F xs (Ok a) ≡ refuse n o → a ≤ o
  pub inside : (xs : List ℕ) (a e : ℕ) → F xs (Ok a) ≡ Ok e → e - a ≤ length xs - a
  pub moves : (xs ys : List ℕ) (a b e : ℕ) → F xs (Ok a) ≡ Ok e → Agree xs a ys b (e - a) → F ys (Ok b) ≡ Ok (b + (e - a))

-- what gets to a place gets there through a place
module _ (G : Cursor → Cursor) (stays : (n o : ℕ) → G (refuse n o) ≡ refuse n o) where
  pub through : (c : Cursor) (e : ℕ) → G c ≡ Ok e → (m : ℕ) × (c ≡ Ok m) × (G (Ok m) ≡ Ok e)
  through c e q = let r = reached G stays c q in (r.0, r.1, rw r.1 at q)

-- what goes on from a cursor is refused behind where the cursor came from
late_by :
    (H : Cursor → Cursor) → ((n o : ℕ) → H (refuse n o) ≡ refuse n o) → ((m n o : ℕ) → H (Ok m) ≡ refuse n o → m ≤ o)
    → (a : ℕ) (c : Cursor) → ((m : ℕ) → c ≡ Ok m → a ≤ m) → ((n o : ℕ) → c ≡ refuse n o → a ≤ o) → (n o : ℕ) → H c ≡ refuse n o → a ≤ o
late_by H stays late a (Ok m) ahead off n o q = omega (arith, ahead m refl, late m n o q)
late_by H stays late a (Err r) ahead off n o q =
    let s : H (Err r) ≡ Err r = stays r.number r.offset in
    let e : r.offset ≡ o = cc in
    omega (arith, off r.number r.offset refl)

pub local_none : Local (λ xs c. c)
local_none =
    record {
      stays = λ xs n o. refl;
      ahead = λ xs a e q. let p : a ≡ e = cc in omega arith;
      late = λ xs a n o q. no q refl;
      inside = λ xs a e q. let p : a ≡ e = cc in omega arith;
      moves = λ xs ys a b e q g. let p : a ≡ e = cc in let z : b + (e - a) ≡ b = omega arith in rw z;
    }

-- a field, and what its value says to read behind it
module _
    (value : List ℕ → Cursor → ℕ) (next : List ℕ → Cursor → Cursor) (f : Local next)
    (same : (xs ys : List ℕ) (a b e : ℕ) → next xs (Ok a) ≡ Ok e → Agree xs a ys b (e - a) → value ys (Ok b) ≡ value xs (Ok a))
    (G : ℕ → List ℕ → Cursor → Cursor) (g : (v : ℕ) → Local (G v))
  where
    local_by : Local (λ xs c. G (value xs c) xs (next xs c))
    local_by =
        record {
          stays = λ xs n o. let v = value xs (refuse n o) in ap (G v xs) (f.stays xs n o) ∙ (g v).stays xs n o;
          ahead = λ xs a e q.
              let v = value xs (Ok a) in
              let m = through (G v xs) ((g v).stays xs) (next xs (Ok a)) e q in
              omega (arith, f.ahead xs a m.0 m.1, (g v).ahead xs m.0 e m.2);
          late = λ xs a n o q.
              let v = value xs (Ok a) in
              late_by (G v xs) ((g v).stays xs) ((g v).late xs) a (next xs (Ok a)) (f.ahead xs a) (f.late xs a) n o q;
          inside = λ xs a e q.
              let v = value xs (Ok a) in
              let m = through (G v xs) ((g v).stays xs) (next xs (Ok a)) e q in
              omega (arith, f.ahead xs a m.0 m.1, (g v).ahead xs m.0 e m.2, f.inside xs a m.0 m.1, (g v).inside xs m.0 e m.2);
          moves = λ xs ys a b e q h.
              let v = value xs (Ok a) in
              let m = through (G v xs) ((g v).stays xs) (next xs (Ok a)) e q in
              let p : a ≤ m.0 = f.ahead xs a m.0 m.1 in
              let r : m.0 ≤ e = (g v).ahead xs m.0 e m.2 in
              let s : b + (m.0 - a) + (e - m.0) ≡ b + (e - a) = omega arith in
              let first = fewer (e - a) (m.0 - a) (omega arith) h in
              let behind = beyond (e - a) (m.0 - a) (e - m.0) m.0 (b + (m.0 - a)) (omega arith) (omega arith) refl h in
              rw (same xs ys a b m.0 m.1 first, f.moves xs ys a b m.0 m.1 first) ((g v).moves xs ys m.0 (b + (m.0 - a)) e m.2 behind ∙ ap Ok s);
        }

pub local_then : (F G : List ℕ → Cursor → Cursor) → Local F → Local G → Local (λ xs c. G xs (F xs c))
local_then F G f g = local_by (λ xs c. 0) F f (λ xs ys a b e q h. refl) (λ v. G) (λ v. g)

pub number_local : (w low high n : ℕ) → Local (λ xs c. (number_field w low high n xs c).next)
unfolding number_field
number_local w low high n =
    record {
      stays = λ xs n o. refl;
      ahead = λ xs a e q. omega (arith, (number_inv w low high n xs a e q).2);
      late = λ xs a k o q. omega (arith, number_off w low high n xs a k o q);
      inside = λ xs a e q. omega (arith, (number_inv w low high n xs a e q).2, (number_inv w low high n xs a e q).0);
      moves = λ xs ys a b e q g.
          let i = number_inv w low high n xs a e q in
          let z : e - a ≡ w = omega (arith, i.2) in
          let h : Agree xs a ys b w = rw z at g in
          rw (z, number_read w low high n ys b h.there (ap (in_range low high) (be-same w h) ∙ i.1));
    }

pub letter_local : (set : List ℕ) → Local (λ xs c. (letter_field set xs c).next)
unfolding letter_field
letter_local set =
    record {
      stays = λ xs n o. refl;
      ahead = λ xs a e q. omega (arith, (letter_inv set xs a e q).2);
      late = λ xs a k o q. omega (arith, letter_off set xs a k o q);
      inside = λ xs a e q. omega (arith, (letter_inv set xs a e q).2, (letter_inv set xs a e q).0);
      moves = λ xs ys a b e q g.
          let i = letter_inv set xs a e q in
          let z : e - a ≡ 1 = omega (arith, i.2) in
          let h : Agree xs a ys b 1 = rw z at g in
          let s : get_or ys b 0 ≡ get_or xs a 0 = same_byte h in
          rw (z, letter_read set ys b (omega (arith, h.there)) (ap (member set) s ∙ i.1));
    }

pub text_local : Local (λ xs c. (text_field xs c).next)
unfolding text_field
text_local =
    record {
      stays = λ xs n o. refl;
      ahead = λ xs a e q. omega (arith, (text_inv xs a e q).1);
      late = λ xs a k o q. omega (arith, text_off xs a k o q);
      inside = λ xs a e q. omega (arith, (text_inv xs a e q).1, (text_inv xs a e q).0);
      moves = λ xs ys a b e q g.
          let i = text_inv xs a e q in
          let u = until_zero (drop a xs) in
          let z : e - a ≡ u + 1 = omega (arith, i.1) in
          let h : Agree xs a ys b (u + 1) = rw z at g in
          let s : b + u + 1 ≡ b + (u + 1) = omega arith in
          let l : u < length (drop a xs) = simp length-drop (omega (arith, i.0)) in
          let k : u < length (drop b ys) = simp length-drop (omega (arith, h.there)) in
          let there : until_zero (drop b ys) ≡ u =
          until_is (drop b ys) u k (rw get_or-drop (h.same u (omega arith)) ∙ sym (get_or-drop a xs u 0) ∙ until_zero_lem (drop a xs) l)
          (λ j m o. until_before (drop a xs) j m (get_or-drop a xs j 0 ∙ sym (h.same j (omega arith)) ∙ sym (get_or-drop b ys j 0) ∙ o)) in
          rw (text_read ys b u there (omega (arith, h.there)), z, s);
    }

pub bytes_local : (n : ℕ) → Local (λ xs c. (bytes_field n xs c).next)
unfolding bytes_field
bytes_local n =
    record {
      stays = λ xs n o. refl;
      ahead = λ xs a e q. omega (arith, (bytes_inv xs a n e q).1);
      late = λ xs a k o q. omega (arith, bytes_off xs a n k o q);
      inside = λ xs a e q. omega (arith, (bytes_inv xs a n e q).1, (bytes_inv xs a n e q).0);
      moves = λ xs ys a b e q g.
          let i = bytes_inv xs a n e q in
          let z : e - a ≡ n = omega (arith, i.1) in
          let h : Agree xs a ys b n = rw z at g in
          rw (z, bytes_read ys b n h.there);
    }

-- a number or a letter read elsewhere is the same
number_same :
    (w low high n : ℕ) (xs ys : List ℕ) (a b e : ℕ) → (number_field w low high n xs (Ok a)).next ≡ Ok e → Agree xs a ys b (e - a)
    → (number_field w low high n ys (Ok b)).value ≡ (number_field w low high n xs (Ok a)).value
number_same w low high n xs ys a b e q g =
    let i = number_inv w low high n xs a e q in
    let z : e - a ≡ w = omega (arith, i.2) in
    let h : Agree xs a ys b w = rw z at g in
    rw (number_read w low high n ys b h.there (ap (in_range low high) (be-same w h) ∙ i.1), number_read w low high n xs a i.0 i.1) (be-same w h)

letter-same :
    (set xs ys : List ℕ) (a b e : ℕ) → (letter_field set xs (Ok a)).next ≡ Ok e → Agree xs a ys b (e - a)
    → (letter_field set ys (Ok b)).value ≡ (letter_field set xs (Ok a)).value
letter-same set xs ys a b e q g =
    let i = letter_inv set xs a e q in
    let z : e - a ≡ 1 = omega (arith, i.2) in
    let h : Agree xs a ys b 1 = rw z at g in
    rw (letter_read set ys b (omega (arith, h.there)) (ap (member set) (same_byte h) ∙ i.1), letter_read set xs a i.0 i.1) (same_byte h)

pub value_local : Local (λ xs c. (value_field xs c).next)
unfolding value_field
value_local =
    local_by (λ xs c. (number_field 4 0 0x7FFFFFFF 4 xs c).value) (λ xs c. (number_field 4 0 0x7FFFFFFF 4 xs c).next) (number_local 4 0 0x7FFFFFFF 4) (number_same 4 0 0x7FFFFFFF 4)
    (λ n xs c. (bytes_field n xs c).next) bytes_local

pub column_local : Local column_end
unfolding column_end
column_local =
    local_by (λ xs c. (letter_field column_letters xs c).value) (λ xs c. (letter_field column_letters xs c).next) (letter_local column_letters) (letter-same column_letters)
    (λ v xs c. cond (has_value v) (value_field xs c).next c) (λ v. go (has_value v))
  where
    go : (t : Bool) → Local (λ xs c. cond t (value_field xs c).next c)
    go true = value_local
    go false = local_none

pub field_local : (f : Field) → Local (λ xs c. (read_field f xs c).next)
field_local (number w low high) = number_local w low high 4
field_local (constant k) = letter_local (k ∷ [])
field_local (letter set) = letter_local set
field_local text = text_local
field_local value = value_local
field_local column = column_local

abbrev pub group_end : List Field → List ℕ → Cursor → Cursor
group_end fs xs c = (read_group fs xs c).next

pub group_local : (fs : List Field) → Local (group_end fs)
group_local [] = local_none
group_local (f ∷ fs) = local_then (λ xs c. (read_field f xs c).next) (group_end fs) (field_local f) (group_local fs)

times_local : (F : List ℕ → Cursor → Cursor) → Local F → (n : ℕ) → Local (λ xs c. times n (F xs) c)
times_local F f zero = local_none
times_local F f (suc n) = local_then F (λ xs c. times n (F xs) c) f (times_local F f n)

pub groups_local : (fs : List Field) (n : ℕ) → Local (λ xs c. groups_end fs xs n c)
unfolding groups_end
groups_local fs n = times_local (group_end fs) (group_local fs) n

pub tuple_local : Local tuple_end
unfolding tuple_end
tuple_local =
    local_by (λ xs c. (number_field 2 0 most_columns 6 xs c).value) (λ xs c. (number_field 2 0 most_columns 6 xs c).next) (number_local 2 0 most_columns 6) (number_same 2 0 most_columns 6)
    (λ n xs c. groups_end (column ∷ []) xs n c) (groups_local (column ∷ []))

-- a refusal passes through every part of a layout
module _ (b : Bool) (xs : List ℕ) where
  part_stays : (p : Part) (n o : ℕ) → (read_part b p xs (refuse n o)).next ≡ refuse n o
  unfolding number_field letter_field xid_field optional
  part_stays (one f) n o = (field_local f).stays xs n o
  part_stays block_xid n o = go b
    where
      go : (t : Bool) → (cond {A = Taken ℕ} t (record { value = 0; next = refuse n o }) (record { value = 0; next = refuse n o })).next ≡ refuse n o
      go true = refl
      go false = refl
  part_stays (groups w low high between fs) n o = ap (groups_end fs xs 0) ((group_local between).stays xs n o) ∙ (groups_local fs 0).stays xs n o
  part_stays tuple n o = tuple_local.stays xs n o
  part_stays (optional_tuple set) n o = refl

  pub fields_stay : (ps : List Part) (n o : ℕ) → (read_fields b ps xs (refuse n o)).next ≡ refuse n o
  fields_stay [] n o = refl
  fields_stay (p ∷ ps) n o = ap (λ (c : Cursor). (read_fields b ps xs c).next) (part_stays p n o) ∙ fields_stay ps n o
