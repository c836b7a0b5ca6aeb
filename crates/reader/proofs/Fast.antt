-- The good path of a column, and of columns one after the other. Assumes nothing.
use Prim.Native.Nat.{ℕ, ◌+◌, ◌<◌, ◌≤◌}
use mathlib.Core.List.{List, [], ◌∷◌}
use mathlib.Core.Path.{◌≡◌, refl, ap, sym, ◌∙◌}
use mathlib.Core.Logic.{◌⊎◌, inl, inr}
use native.Mathlib.Omega.{arith}
use borrow.Author.Tests.{lt-ltb, le-ltb, ne_eqb}
use lib.ListN.{length, get_or}
use Rattle.wire.specs.Cursors.{Cursor}
use Rattle.std.specs.Prelude.{Some, None, Ok, Err}
use Rattle.wire.specs.Fields.{letter_field, value_field, member}
use Rattle.wire.specs.ValueEnd.{value_end, end_of}
use Rattle.wire.proofs.Values.{end_of_value}
use Rattle.message.specs.Layout.{column, column_end, groups_end}
use Rattle.message.proofs.Local.{column_local}
use Rattle.reader.proofs.Groups.{refused}

module _ (xs : List ℕ) (at : ℕ) where
  pub column-past : length xs ≤ at → None ≡ end_of (column_end xs (Ok at))
  unfolding column_end letter_field
  column-past h = rw (le-ltb at (length xs) h)

  module _ (h : at < length xs) where
    pub column_bare : (get_or xs at 0 ≡ 0x6E) ⊎ (get_or xs at 0 ≡ 0x75) → Some (at + 1) ≡ end_of (column_end xs (Ok at))
    unfolding column_end letter_field member
    column_bare (inl e) = rw (lt-ltb at (length xs) h, e)
    column_bare (inr e) = rw (lt-ltb at (length xs) h, e)

    full : (get_or xs at 0 ≡ 0x62) ⊎ (get_or xs at 0 ≡ 0x74) → (value_field xs (Ok (at + 1))).next ≡ column_end xs (Ok at)
    unfolding column_end letter_field member
    full (inl e) = rw (lt-ltb at (length xs) h, e)
    full (inr e) = rw (lt-ltb at (length xs) h, e)

    pub column_full :
        (get_or xs at 0 ≡ 0x62) ⊎ (get_or xs at 0 ≡ 0x74) → length xs ≤ 0x7FFFFFFF → value_end xs (at + 1) ≡ end_of (column_end xs (Ok at))
    column_full e small = end_of_value xs (at + 1) small ∙ ap end_of (full e)

    pub column_other :
        ((get_or xs at 0 ≡ 0x6E) ⊎ (get_or xs at 0 ≡ 0x75) → ⊥) → ((get_or xs at 0 ≡ 0x62) ⊎ (get_or xs at 0 ≡ 0x74) → ⊥)
        → None ≡ end_of (column_end xs (Ok at))
    unfolding column_end letter_field member
    column_other bare full =
        let k = get_or xs at 0 in
        rw (
          lt-ltb at (length xs) h,
          ne_eqb 0x6E k (λ e. bare (inl (sym e))),
          ne_eqb 0x75 k (λ e. bare (inr (sym e))),
          ne_eqb 0x74 k (λ e. full (inr (sym e))),
          ne_eqb 0x62 k (λ e. full (inl (sym e))),
        )

module _ {whole : Cursor} (xs : List ℕ) (n at : ℕ) (h : 0 < n) (inv : groups_end (column ∷ []) xs n (Ok at) ≡ whole) where
  -- a column that is refused is the end of the columns
  pub columns-none : None ≡ end_of (column_end xs (Ok at)) → None ≡ end_of whole
  columns-none = go (column_end xs (Ok at)) refl
    where
      go : (c : Cursor) → c ≡ column_end xs (Ok at) → None ≡ end_of c → None ≡ end_of whole
      go (Ok e) q z = let z' : ◌≡◌ {A = ℕ} 0 1 = cc in absurd (omega arith)
      go (Err r) q z = ap end_of (refused (column ∷ []) xs n (Ok at) h (column_local.stays xs r.number r.offset) q refl inv)
