-- A value through C: the flat form of every value that a step gives is taken back, so that it is written as the value is. Assumes nothing.
use Prim.Native.Nat.{ℕ}
use mathlib.Core.List.{List}
use mathlib.Core.Bool.{Bool, true, false}
use Rattle.std.specs.Prelude.{Option, Some, Ok}
use mathlib.Core.Path.{◌≡◌, refl, ap, ◌∙◌}
use native.Mathlib.Omega.{arith}
use borrow.Author.Tests.{le-leb}
use Rattle.message.specs.Encode.{cut}
use Rattle.message.specs.Write.{bytes}
use Rattle.writer.proofs.RoundTrips.{Byte, numbers}
use Rattle.columns.specs.declared.Position.{Position}
use Rattle.values.specs.declared.Value.{Value}
use Rattle.values.specs.declared.Value.TheVariants as v
use Rattle.values.specs.declared.Bits.{Bits}
use Rattle.values.specs.Types.{row_of, is_raw, kind_of, bits_of}
use Rattle.values.specs.Steps.{typed_step}
use Rattle.values.specs.Writes.{write_value}
use Rattle.values.specs.Formed.{Formed}
use Rattle.values.proofs.Spelled.{spelled, listed_back}
use Rattle.values.proofs.RoundTrips.{write_after_read}
use Rattle.capi_values.specs.Flat.{flat, bits_in, write_found, write_flat}

raw_bits : (x : Value) → is_raw (kind_of x) ≡ true → bits_in (flat x) ≡ Some (bits_of x)
raw_bits (v.Bool b) i = let z : ◌≡◌ {A = ℕ} 0 1 = cc in absurd (omega arith)
raw_bits (v.Int2 z) i = let z : ◌≡◌ {A = ℕ} 0 1 = cc in absurd (omega arith)
raw_bits (v.Int4 z) i = let z : ◌≡◌ {A = ℕ} 0 1 = cc in absurd (omega arith)
raw_bits (v.Int8 z) i = let z : ◌≡◌ {A = ℕ} 0 1 = cc in absurd (omega arith)
raw_bits (v.Float4 x) i = let z : ◌≡◌ {A = ℕ} 0 1 = cc in absurd (omega arith)
raw_bits (v.Float4Nan n) i = let z : ◌≡◌ {A = ℕ} 0 1 = cc in absurd (omega arith)
raw_bits (v.Float8 x) i = let z : ◌≡◌ {A = ℕ} 0 1 = cc in absurd (omega arith)
raw_bits (v.Float8Nan n) i = let z : ◌≡◌ {A = ℕ} 0 1 = cc in absurd (omega arith)
raw_bits (v.TimestampTz z) i = let z : ◌≡◌ {A = ℕ} 0 1 = cc in absurd (omega arith)
raw_bits (v.Raw start length) i = refl

listed_bits : (x : Value) → Formed x → is_raw (kind_of x) ≡ false → bits_in (flat x) ≡ Some (bits_of x)
listed_bits x f i = let s = spelled x f i in rw (s.form, listed_back (kind_of x) i, i, le-leb s.n (row_of (kind_of x)).most s.most)

-- a formed value's flat form is written as the value is
pub taken_back : (x : Value) → Formed x → (src : List ℕ) → write_flat (flat x) src ≡ write_value x src
taken_back x f src = ap (λ (b : Option Bits). write_found b src) (go (is_raw (kind_of x)) refl)
  where
    go : (b : Bool) → is_raw (kind_of x) ≡ b → bits_in (flat x) ≡ Some (bits_of x)
    go true i = raw_bits x i
    go false i = listed_bits x f i

-- so what a step gave is written as the very bytes of its column
pub written_again :
    (xs : List Byte) (p : Position) (oid : ℕ) (x : Value) (q : (typed_step (numbers xs) p oid).item ≡ Ok (Some x))
    → let g = write_after_read xs p oid x q in write_flat (flat x) (numbers xs) ≡ bytes (cut (numbers xs) g.s g.n)
written_again xs p oid x q = let g = write_after_read xs p oid x q in taken_back x g.well (numbers xs) ∙ g.again
