-- To be believed (binary values). The types whose binary values are numbers (document 02, #109): one table, and what each case of a value is.
use Rattle.std.specs.Prelude.{ℕ, List, [], ◌∷◌, Bool, true, false, cond, ◌&&◌, ◌||◌, eqb, leb, Float, Result, Ok}
use Rattle.std.specs.Float.{Format, binary32, binary64}
use Rattle.std.specs.Float.Ieee.{of_bits, to_bits, nan_bits}
use Rattle.std.specs.Int.{w16, w32, w64}
use Rattle.std.proofs.Common.{to_z, of_z}
use Rattle.wire.specs.declared.Refusal.{Refusal}
use Rattle.wire.specs.Cursors.{refuse}
use Rattle.wire.specs.Numbers.{be, most16, most32, most64}
use Rattle.values.specs.declared.ValueKind.{ValueKind}
use Rattle.values.specs.declared.ValueKind.TheVariants as k
use Rattle.values.specs.declared.TypeRow.{TypeRow}
use Rattle.values.specs.declared.Value.{Value}
use Rattle.values.specs.declared.Value.TheVariants as v
use Rattle.values.specs.declared.Bits.{Bits}
use Rattle.values.specs.declared.Bits.TheVariants.{Number, Part}

-- THE TABLE: a type's OID, how many bytes its values have, and the largest number that they may spell. Raw has no line: all 0

abbrev row : ℕ → ℕ → ℕ → TypeRow
row oid width most = record { oid = oid; width = width; most = most }

abbrev pub row_of : ValueKind → TypeRow
row_of k.Bool = row 16 1 1
row_of k.Int2 = row 21 2 most16
row_of k.Int4 = row 23 4 most32
row_of k.Int8 = row 20 8 most64
row_of k.Float4 = row 700 4 most32
row_of k.Float8 = row 701 8 most64
row_of k.TimestampTz = row 1184 8 most64
row_of k.Raw = row 0 0 0

abbrev pub listed : List ValueKind
listed = k.Bool ∷ k.Int2 ∷ k.Int4 ∷ k.Int8 ∷ k.Float4 ∷ k.Float8 ∷ k.TimestampTz ∷ []

-- the first kind whose line has the OID; raw where none has it
abbrev pub search : List ValueKind → ℕ → ValueKind
search [] oid = k.Raw
search (x ∷ xs) oid = cond (eqb oid (row_of x).oid) x (search xs oid)

abbrev pub kind_of_type : ℕ → ValueKind
kind_of_type oid = search listed oid

abbrev pub is_raw : ValueKind → Bool
is_raw k.Bool = false
is_raw k.Int2 = false
is_raw k.Int4 = false
is_raw k.Int8 = false
is_raw k.Float4 = false
is_raw k.Float8 = false
is_raw k.TimestampTz = false
is_raw k.Raw = true

-- READING

-- a pattern: the float that has it, and of a NaN the pattern itself
abbrev pub float_of : Format → (Float → Value) → (ℕ → Value) → ℕ → Value
float_of f number nan n = cond (nan_bits f n) (nan n) (number (of_bits f n))

abbrev pub float4_of : ℕ → Value
float4_of n = float_of binary32 v.Float4 v.Float4Nan n

abbrev pub float8_of : ℕ → Value
float8_of n = float_of binary64 v.Float8 v.Float8Nan n

-- the value of `count` bytes at `start` that spell n
abbrev pub value_of : ValueKind → (start count n : ℕ) → Value
value_of k.Bool start count n = v.Bool (eqb n 1)
value_of k.Int2 start count n = v.Int2 (to_z w16 n)
value_of k.Int4 start count n = v.Int4 (to_z w32 n)
value_of k.Int8 start count n = v.Int8 (to_z w64 n)
value_of k.Float4 start count n = float4_of n
value_of k.Float8 start count n = float8_of n
value_of k.TimestampTz start count n = v.TimestampTz (to_z w64 n)
value_of k.Raw start count n = v.Raw start count

-- whether a value of the kind may have so many bytes
abbrev pub has_width : ValueKind → ℕ → Bool
has_width x count = is_raw x || eqb count (row_of x).width

-- whether `count` bytes that spell n are a value of the kind
abbrev pub allowed : ValueKind → (count n : ℕ) → Bool
allowed x count n = has_width x count && leb n (row_of x).most

-- the value of `count` bytes at `start`, or 17 at its first byte
unfoldable pub typed_value : List ℕ → ValueKind → (start count : ℕ) → Result Value Refusal
typed_value xs x start count =
    let n = be (row_of x).width xs start in
    cond (allowed x count n) (Ok (value_of x start count n)) (refuse 17 start)

-- WHAT EACH CASE IS: its kind, and its number's width and bits, or its place in a source

abbrev pub kind_of : Value → ValueKind
kind_of (v.Bool b) = k.Bool
kind_of (v.Int2 z) = k.Int2
kind_of (v.Int4 z) = k.Int4
kind_of (v.Int8 z) = k.Int8
kind_of (v.Float4 x) = k.Float4
kind_of (v.Float4Nan n) = k.Float4
kind_of (v.Float8 x) = k.Float8
kind_of (v.Float8Nan n) = k.Float8
kind_of (v.TimestampTz z) = k.TimestampTz
kind_of (v.Raw start length) = k.Raw

abbrev pub bits_of : Value → Bits
bits_of (v.Bool b) = Number 1 (cond b 1 0)
bits_of (v.Int2 z) = Number 2 (of_z w16 z)
bits_of (v.Int4 z) = Number 4 (of_z w32 z)
bits_of (v.Int8 z) = Number 8 (of_z w64 z)
bits_of (v.Float4 x) = Number 4 (to_bits binary32 x)
bits_of (v.Float4Nan n) = Number 4 n
bits_of (v.Float8 x) = Number 8 (to_bits binary64 x)
bits_of (v.Float8Nan n) = Number 8 n
bits_of (v.TimestampTz z) = Number 8 (of_z w64 z)
bits_of (v.Raw start length) = Part start length
