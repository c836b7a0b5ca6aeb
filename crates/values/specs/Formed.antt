-- To be believed (binary values). The values and columns that the round trips speak of.
use Rattle.std.specs.Prelude.{ℕ, suc, ◌+◌, ◌^◌, ◌<◌, List, [], ◌∷◌, ◌++◌, ◌≡◌, true, false, T, length}
use Rattle.std.specs.Float.{binary32, binary64}
use Rattle.std.specs.Float.Ieee.{fits, is_nan, nan_bits}
use Rattle.std.specs.Int.{w16, w32, w64}
use Rattle.std.proofs.Common.{SFits}
use Rattle.message.specs.Encode.{digits}
use Rattle.columns.specs.declared.Position.{Position}
use Rattle.values.specs.declared.Value.{Value}
use Rattle.values.specs.declared.Value.TheVariants as v

-- a value as a program can hold it, whose floats are no NaN and whose NaN patterns are a NaN's
abbrev pub Formed : Value → Type 0
Formed (v.Bool b) = T true
Formed (v.Int2 z) = SFits w16 z
Formed (v.Int4 z) = SFits w32 z
Formed (v.Int8 z) = SFits w64 z
Formed (v.Float4 x) = T (fits binary32 x) × (is_nan x ≡ false)
Formed (v.Float4Nan n) = (n < 2 ^ 32) × (nan_bits binary32 n ≡ true)
Formed (v.Float8 x) = T (fits binary64 x) × (is_nan x ≡ false)
Formed (v.Float8Nan n) = (n < 2 ^ 64) × (nan_bits binary64 n ≡ true)
Formed (v.TimestampTz z) = SFits w64 z
Formed (v.Raw start count) = T true

-- a `b` column of these bytes: the letter, their length, and they
abbrev pub column_of : List ℕ → List ℕ
column_of bs = (0x62 ∷ []) ++ (digits 4 (length bs) ++ bs)

-- such a column somewhere in a list
abbrev pub placed : (before bs behind : List ℕ) → List ℕ
placed before bs behind = before ++ (column_of bs ++ behind)

-- the position at it, with k columns behind it; where its value starts; and the position past it
abbrev pub at_column : (before : List ℕ) (k : ℕ) → Position
at_column before k = record { offset = length before; left = suc k }

abbrev pub value_start : List ℕ → ℕ
value_start before = length before + 1 + 4

abbrev pub past_column : (before bs : List ℕ) (k : ℕ) → Position
past_column before bs k = record { offset = value_start before + length bs; left = k }
