-- What a step finds where a `b` column of given bytes stands. Assumes nothing.
use Prim.Native.Nat.{ℕ, suc, ◌+◌, ◌-◌, ◌^◌, ◌<◌, ◌≤◌}
use mathlib.Core.List.{List, [], ◌∷◌, ◌++◌}
use mathlib.Core.Bool.{false}
use mathlib.Core.Path.{◌≡◌, refl}
use native.Mathlib.Omega.{arith}
use borrow.Author.Tests.{le-leb, eq-eqb, ne_eqb}
use lib.ListN.{length, length-append}
use lib.Seq.{drop-append_seam}
use Rattle.std.specs.Prelude.{Ok, Some}
use Rattle.wire.specs.Fields.{value_field, member}
use Rattle.message.specs.Encode.{digits}
use Rattle.message.proofs.From.{From, be-from, from_first, from_next, number-from, letter-from, bytes-from}
use Rattle.message.proofs.Judged.{length_digits}
use Rattle.columns.specs.Steps.{gives, step_at}
use Rattle.values.specs.declared.ValueKind.{ValueKind}
use Rattle.values.specs.declared.ValueKind.TheVariants as k
use Rattle.values.specs.Types.{row_of, is_raw, value_of, typed_value}
use Rattle.values.specs.Steps.{binary, typed_step}
use Rattle.values.proofs.Spelled.{listed_back}
use Rattle.values.specs.Formed.{column_of, placed, at_column, value_start, past_column}

module _ (before bs behind : List ℕ) (short : length bs ≤ 0x7FFFFFFF) where
  abbrev xs : List ℕ
  xs = placed before bs behind

  here : From xs (length before) (column_of bs) behind
  here = record { at = omega (arith, length-append before (column_of bs ++ behind)); is = drop-append_seam before (column_of bs ++ behind) }

  letter : From xs (length before) (0x62 ∷ []) ((digits 4 (length bs) ++ bs) ++ behind)
  letter = from_first (0x62 ∷ []) (digits 4 (length bs) ++ bs) behind here

  size : From xs (length before + 1) (digits 4 (length bs)) (bs ++ behind)
  size = from_first (digits 4 (length bs)) bs behind (from_next (0x62 ∷ []) (digits 4 (length bs) ++ bs) behind letter)

  -- the bytes stand in the column
  pub content : From xs (value_start before) bs behind
  content = rw (length_digits 4 (length bs)) at (from_next (digits 4 (length bs)) bs behind size)

  value_there : value_field xs (Ok (length before + 1)) ≡ record { value = record { start = value_start before; length = length bs }; next = Ok (value_start before + length bs) }
  unfolding value_field
  value_there =
      let l : length bs < 256 ^ 4 = omega arith in
      let z : 0 ≤ length bs = omega arith in
      let n = number-from (bs ++ behind) 4 0 0x7FFFFFFF 4 (length bs) size l (rw (le-leb 0 (length bs) z, le-leb (length bs) 0x7FFFFFFF short)) in
      rw n (bytes-from behind bs content)

  pub stands : (k : ℕ) → step_at binary xs (at_column before k) ≡ gives (value_start before ∷ length bs ∷ []) (value_start before + length bs)
  unfolding member
  stands k =
      let l = letter-from ((digits 4 (length bs) ++ bs) ++ behind) (0x62 ∷ []) 0x62 letter refl in
      rw (ne_eqb (suc k) 0 (λ q. omega arith), l, value_there)

width_most : (y : ValueKind) (n : ℕ) → is_raw y ≡ false → n ≤ (row_of y).most → (n < 256 ^ (row_of y).width) × ((row_of y).width ≤ 8)
width_most k.Bool n i h = (omega arith, omega arith)
width_most k.Int2 n i h = (omega arith, omega arith)
width_most k.Int4 n i h = (omega arith, omega arith)
width_most k.Int8 n i h = (omega arith, omega arith)
width_most k.Float4 n i h = (omega arith, omega arith)
width_most k.Float8 n i h = (omega arith, omega arith)
width_most k.TimestampTz n i h = (omega arith, omega arith)
width_most k.Raw n i h = let z : ◌≡◌ {A = ℕ} 0 1 = cc in absurd (omega arith)

-- a number that a listed type allows
pub number_stands :
    (y : ValueKind) (n : ℕ) → is_raw y ≡ false → n ≤ (row_of y).most → (before behind : List ℕ) (k : ℕ)
    → let bs = digits (row_of y).width n in
    typed_step (placed before bs behind) (at_column before k) (row_of y).oid ≡ record { item = Ok (Some (value_of y (value_start before) (length bs) n)); next = past_column before bs k }
unfolding typed_step typed_value
number_stands y n i m before behind k =
    let bs = digits (row_of y).width n in
    let f = width_most y n i m in
    let w : length bs ≡ (row_of y).width = length_digits (row_of y).width n in
    let l : length bs ≤ 0x7FFFFFFF = omega (arith, f.1) in
    let b = be-from (placed before bs behind) (value_start before) (row_of y).width n behind (content before bs behind l) f.0 in
    let one_less : suc k - 1 ≡ k = omega arith in
    rw (stands before bs behind l k, listed_back y i, b, i, eq-eqb (length bs) (row_of y).width w, le-leb n (row_of y).most m, one_less)
