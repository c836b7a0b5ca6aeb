-- Bytes in pieces: one after the other, and packed records read back. Assumes nothing.
use Prim.Native.Nat.{ℕ, zero, suc, ◌+◌, ◌<◌, ◌≤◌}
use mathlib.Core.List.{List, [], ◌∷◌, ◌++◌}
use mathlib.Core.Bool.{Bool, true, false, cond, ◌&&◌}
use mathlib.Core.Path.{◌≡◌, refl, sym, ◌∙◌, ap}
use native.Mathlib.Omega.{arith}
use borrow.Author.Tests.{leb-true, le-leb}
use lib.Dec.{eqb, leb}
use lib.ListN.{length, take, drop, length-append, length-drop}
use lib.Seq.{take-nil, drop-nil, take_at, drop_at}
use Rattle.wire.specs.Numbers.{most16, most32}
use Rattle.wire.specs.Lists.{keep}
use Rattle.message.specs.Encode.{digits}
use Rattle.message.proofs.Judged.{length_digits}
use Rattle.message.proofs.From.{From, from_first, from_next, number-from}
use Rattle.catalog.specs.Table.{Small}
use Rattle.std.specs.Prelude.{None}
use Rattle.keeper.specs.declared.Header.{Header}
use Rattle.keeper.specs.Rules.{Kept, kept, record_of, records_of, sizes}
use Rattle.keeper.specs.Records.{header, xids_of, word, mark_of, header_of, passed, picked, pieces_in}

-- WHAT IS KEPT FITS ITS FIELDS

pub record Fitting (top own : ℕ) (xs : List ℕ) : Type 0 where
  pub top_fits : Small top
  pub own-fits : Small own
  pub length-fits : Small (length xs)

abbrev pub Sound : Kept → Type 0
Sound (kept top own xs) = Fitting top own xs

abbrev pub AllSound : List Kept → Type 0
AllSound [] = Unit {0}
AllSound (k ∷ ks) = Sound k × AllSound ks

pub sound_keep : (p : Kept → Bool) (ks : List Kept) → AllSound ks → AllSound (keep p ks)
sound_keep p [] a = tt
sound_keep p (k ∷ ks) a = go (p k) (sound_keep p ks a.1)
  where
    go : (v : Bool) → AllSound (keep p ks) → AllSound (cond v (k ∷ keep p ks) (keep p ks))
    go true r = (a.0, r)
    go false r = r

pub sound_join : (ks : List Kept) (k : Kept) → AllSound ks → Sound k → AllSound (ks ++ (k ∷ []))
sound_join [] k a s = (s, tt)
sound_join (j ∷ ks) k a s = (a.0, sound_join ks k a.1 s)

-- ONE PIECE: there is something in it where there are bytes, and it goes no further than they do

module _ (xs : List ℕ) where
  header_cases :
      (P : Header → Type 0) → (14 + word xs 10 ≤ length xs → P (header (14 + word xs 10) (xids_of (word xs 2) (word xs 6))))
      → P (header (length xs) None) → P (header_of xs)
  unfolding header_of
  header_cases P a b = go (leb 14 (length xs)) (eqb (mark_of xs) 0xC34D) (leb (14 + word xs 10) (length xs)) refl
    where
      go : (u v w : Bool) → leb (14 + word xs 10) (length xs) ≡ w
          → P (cond (u && (v && w)) (header (14 + word xs 10) (xids_of (word xs 2) (word xs 6))) (header (length xs) None))
      go true true true e = a (leb-true (14 + word xs 10) (length xs) e)
      go true true false e = b
      go true false w e = b
      go false v w e = b

  pub size_le : (header_of xs).size ≤ length xs
  size_le = header_cases (λ r. r.size ≤ length xs) (λ h. h) (omega arith)

  pub size_some : 0 < length xs → 0 < (header_of xs).size
  size_some h = header_cases (λ r. 0 < r.size) (λ k. omega arith) h

-- PIECES ONE AFTER ANOTHER

passed_nil : (v : Bool) (n : ℕ) → ◌≡◌ {A = List ℕ} (cond v (take n []) []) []
passed_nil true n = take-nil n
passed_nil false n = refl

module _ (q : Header → Bool) where
  picked_nil : (n : ℕ) → picked q n [] ≡ []
  picked_nil zero = refl
  picked_nil (suc n) = rw (passed_nil (q (header_of [])) (header_of []).size, drop-nil (header_of []).size) (picked_nil n)

  -- more looks than bytes find no more
  picked_enough : (n m : ℕ) (xs : List ℕ) → length xs ≤ n → length xs ≤ m → picked q n xs ≡ picked q m xs
  picked_enough zero m [] h k = sym (picked_nil m)
  picked_enough zero m (x ∷ xs) h k = absurd (omega arith)
  picked_enough (suc n) m [] h k = picked_nil (suc n) ∙ sym (picked_nil m)
  picked_enough (suc n) zero (x ∷ xs) h k = absurd (omega arith)
  picked_enough (suc n) (suc m) (x ∷ xs) h k =
      let r = header_of (x ∷ xs) in
      let s = size_some (x ∷ xs) (omega arith) in
      let l = length-drop r.size (x ∷ xs) in
      ap (λ (t : List ℕ). passed q r (x ∷ xs) ++ t) (picked_enough n m (drop r.size (x ∷ xs)) (omega arith) (omega arith))

  pub pieces_none : (xs : List ℕ) → length xs ≡ 0 → pieces_in q xs ≡ []
  unfolding pieces_in
  pieces_none xs e = ap (λ n. picked q n xs) e

  -- a piece, and then the rest
  pub pieces_next : (xs : List ℕ) → pieces_in q xs ≡ passed q (header_of xs) xs ++ pieces_in q (drop (header_of xs).size xs)
  unfolding pieces_in
  pieces_next xs =
      let r = header_of xs in
      let l = length-drop r.size xs in
      picked_enough (length xs) (suc (length xs)) xs (omega arith) (omega arith)
      ∙ ap (λ (t : List ℕ). passed q r xs ++ t) (picked_enough (length xs) (length (drop r.size xs)) (drop r.size xs) (omega arith) (omega arith))

-- RECORDS

pub length_record : (top own : ℕ) (xs : List ℕ) → length (record_of (kept top own xs)) ≡ 14 + length xs
unfolding record_of
length_record top own xs =
    let a = length-append (digits 4 top) (digits 4 own ++ (digits 4 (length xs) ++ xs)) in
    let b = length-append (digits 4 own) (digits 4 (length xs) ++ xs) in
    let c = length-append (digits 4 (length xs)) xs in
    omega (arith, a, b, c, length_digits 4 top, length_digits 4 own, length_digits 4 (length xs))

pub length_records : (ks : List Kept) → length (records_of ks) ≡ sizes ks
length_records [] = refl
length_records (kept top own xs ∷ ks) =
    omega (arith, length-append (record_of (kept top own xs)) (records_of ks), length_record top own xs, length_records ks)

-- a number that fits is read back
word-from : (xs : List ℕ) (at v : ℕ) (post : List ℕ) → From xs at (digits 4 v) post → Small v → word xs at ≡ v
word-from xs at v post f h =
    ap (λ x. x.value) (number-from post 4 0 most32 4 v f h (rw (le-leb 0 v (omega arith), le-leb v most32 (omega arith))))

module _ (top own : ℕ) (xs post : List ℕ) (f : Fitting top own xs) where
  abbrev whole : List ℕ
  whole = record_of (kept top own xs) ++ post

  n_part : List ℕ
  n_part = digits 4 (length xs) ++ xs

  o_part : List ℕ
  o_part = digits 4 own ++ n_part

  t_part : List ℕ
  t_part = digits 4 top ++ o_part

  after_mark : From whole 2 t_part post
  unfolding record_of t_part o_part n_part
  after_mark = record { at = omega (arith, length-append (record_of (kept top own xs)) post, length_record top own xs); is = refl }

  after_top : From whole 6 o_part post
  unfolding t_part
  after_top = rw (length_digits 4 top) at (from_next (digits 4 top) o_part post (from_first (digits 4 top) o_part post after_mark))

  after-own : From whole 10 n_part post
  unfolding o_part
  after-own = rw (length_digits 4 own) at (from_next (digits 4 own) n_part post (from_first (digits 4 own) n_part post after_top))

  mark_is : mark_of whole ≡ 0xC34D
  unfolding record_of t_part o_part n_part digits
  mark_is = ap (λ x. x.value) (number-from (t_part ++ post) 2 0 most16 4 0xC34D (record { at = omega arith; is = refl }) (omega arith) refl)

  top_is : word whole 2 ≡ top
  unfolding t_part
  top_is = word-from whole 2 top (o_part ++ post) (from_first (digits 4 top) o_part post after_mark) f.top_fits

  own_is : word whole 6 ≡ own
  unfolding o_part
  own_is = word-from whole 6 own (n_part ++ post) (from_first (digits 4 own) n_part post after_top) f.own-fits

  n_is : word whole 10 ≡ length xs
  unfolding n_part
  n_is = word-from whole 10 (length xs) (xs ++ post) (from_first (digits 4 (length xs)) xs post after-own) f.length-fits

  header_record : header_of whole ≡ header (14 + length xs) (xids_of top own)
  unfolding header_of
  header_record =
      let l : 14 + length xs ≤ length whole = omega (arith, length-append (record_of (kept top own xs)) post, length_record top own xs) in
      rw (n_is, top_is, own_is, mark_is, le-leb 14 (length whole) (omega arith), le-leb (14 + length xs) (length whole) l)

-- of packed records those that pass are read back
module _
    (q : Header → Bool)
    (p : Kept → Bool)
    (same : (top own : ℕ) (xs : List ℕ) → q (header (14 + length xs) (xids_of top own)) ≡ p (kept top own xs)) where
  pub pieces_of : (ks : List Kept) → AllSound ks → pieces_in q (records_of ks) ≡ records_of (keep p ks)
  pieces_of [] a = pieces_none q [] refl
  pieces_of (kept top own xs ∷ ks) a =
      pieces_next q (record_of (kept top own xs) ++ records_of ks)
      ∙ rw (e, take_at (record_of (kept top own xs)) (records_of ks) (14 + length xs) l, drop_at (record_of (kept top own xs)) (records_of ks) (14 + length xs) l, same top own xs)
      (go (p (kept top own xs)) (pieces_of ks a.1))
    where
      e : header_of (record_of (kept top own xs) ++ records_of ks) ≡ header (14 + length xs) (xids_of top own)
      e = header_record top own xs (records_of ks) a.0

      l : length (record_of (kept top own xs)) ≡ 14 + length xs
      l = length_record top own xs

      go : (v : Bool) → pieces_in q (records_of ks) ≡ records_of (keep p ks)
          → cond v (record_of (kept top own xs)) [] ++ pieces_in q (records_of ks) ≡ records_of (cond v (kept top own xs ∷ keep p ks) (keep p ks))
      go true r = ap (λ (t : List ℕ). record_of (kept top own xs) ++ t) r
      go false r = r
