-- To be believed (demand 1). Big-endian numbers in a list of bytes, over the width.
use Rattle.std.specs.Prelude.{ℕ, zero, suc, ◌+◌, ◌*◌, cond, List, length, Option, Some, None, nat_le, slice_index}

-- the largest number of 16, 32 and 64 bits
abbrev pub most16 : ℕ
most16 = 0xFFFF

abbrev pub most32 : ℕ
most32 = 0xFFFF_FFFF

abbrev pub most64 : ℕ
most64 = 0xFFFF_FFFF_FFFF_FFFF

-- the number that k bytes from `at` on spell, the most significant first
unfoldable pub be : ℕ → List ℕ → ℕ → ℕ
be zero xs at = 0
be (suc k) xs at = be k xs at * 256 + slice_index xs (at + k)

-- the number of k bytes at `at`, where the bytes are there
unfoldable pub word_at : ℕ → List ℕ → ℕ → Option ℕ
word_at k xs at = cond (nat_le (at + k) (length xs)) (Some (be k xs at)) None
