-- The end of a value, and that it is the end of the field. Assumes nothing.
use Rattle.std.proofs.Common.{◌≡◌, ℕ, ◌+◌, ◌<◌, ◌≤◌, Bool, true, false, leb, List, length, refl, arith, le-leb, leb-true}
use borrow.Author.Tests.{lt-leb}
use Rattle.std.specs.Prelude.{None, Ok}
use Rattle.wire.specs.Numbers.{be, word_at}
use Rattle.wire.specs.Fields.{number_field, bytes_field, value_field}
use Rattle.wire.specs.ValueEnd.{value_end, end_of}

module _ (xs : List ℕ) (at : ℕ) where
  pub end_short : length xs < at + 4 → value_end xs at ≡ None
  unfolding value_end
  end_short h = rw (lt-leb (at + 4) (length xs) h)

  -- the end is the field's, in a list that is short enough for its lengths not to be negative
  pub end_of_value : length xs ≤ 0x7FFFFFFF → value_end xs at ≡ end_of (value_field xs (Ok at)).next
  unfolding value_end value_field number_field bytes_field word_at
  end_of_value small = go (leb (at + 4) (length xs)) refl (leb (at + 4 + be 4 xs at) (length xs)) refl
    where
      go :
          (a : Bool) → leb (at + 4) (length xs) ≡ a → (b : Bool) → leb (at + 4 + be 4 xs at) (length xs) ≡ b
          → value_end xs at ≡ end_of (value_field xs (Ok at)).next
      go true ta true tb =
          let l : be 4 xs at ≤ 0x7FFFFFFF = omega (arith, leb-true (at + 4 + be 4 xs at) (length xs) tb) in
          simp (ta, tb, le-leb 0 (be 4 xs at) (omega arith), le-leb (be 4 xs at) 0x7FFFFFFF l)
      go true ta false tb = range (leb (be 4 xs at) 0x7FFFFFFF) refl
        where
          range : (t : Bool) → leb (be 4 xs at) 0x7FFFFFFF ≡ t → value_end xs at ≡ end_of (value_field xs (Ok at)).next
          range true r = simp (ta, tb, le-leb 0 (be 4 xs at) (omega arith), r)
          range false r = simp (ta, tb, le-leb 0 (be 4 xs at) (omega arith), r)
      go false ta b tb = simp ta
