-- A value and its number: each way back, once over all readings. Assumes nothing.
use Prim.Native.Nat.{ℕ, zero, suc, ◌^◌, ◌<◌, ◌≤◌}
use mathlib.Core.Path.{◌≡◌, refl, sym, ap, ◌∙◌}
use mathlib.Core.Bool.{Bool, true, false, cond}
use native.Mathlib.Omega.{arith}
use lib.Dec.{eqb}
use lib.Ieee.{binary32, binary64, nan_bits, of_bits, to_bits}
use lib.Ieee.Bits.{to_bits-lt, of_bits-fits, nan_bits_is}
use mir.Syntax.{Width, w16, w32, w64}
use mir.Val.{to_z, of_z, bits, bool_byte}
use mir.ValLaws.{of_z-to_z, to_z-of_z, to_z-Fits, of_z_fits}
use Rattle.values.specs.declared.ValueKind.{ValueKind}
use Rattle.values.specs.declared.ValueKind.TheVariants as k
use Rattle.values.specs.declared.Value.{Value}
use Rattle.values.specs.declared.Value.TheVariants as v
use Rattle.values.specs.declared.Bits.TheVariants.{Number}
use Rattle.values.specs.Types.{row_of, is_raw, kind_of_type, value_of, kind_of, bits_of}
use Rattle.values.specs.Formed.{Formed}
use Rattle.values.proofs.Floats.{bits_back, float_back, pattern_back}

-- a signed number is kept by its bits
pub kept : (w : Width) (n : ℕ) → n < 2 ^ bits w → to_z w (of_z w (to_z w n)) ≡ to_z w n
kept w n h = to_z-of_z w (to_z w n) (to_z-Fits w n (record { fits = h }))

pub byte_of : (b : Bool) → bool_byte b ≡ cond b 1 0
byte_of true = refl
byte_of false = refl

signed_back : (w : Width) (k n : ℕ) → n < 2 ^ bits w → Number k (of_z w (to_z w n)) ≡ Number k n
signed_back w k n h = ap (Number k) (of_z-to_z w n (record { fits = h }))

bool_back : (n : ℕ) → n ≤ 1 → cond (eqb n 1) 1 0 ≡ n
bool_back zero h = refl
bool_back (suc zero) h = refl
bool_back (suc (suc n)) h = absurd (omega arith)

-- EVERY PATTERN that a type allows is kept: the value that is read from n has n's bits, in the type's width
pub number_back : (x : ValueKind) (s c n : ℕ) → is_raw x ≡ false → n ≤ (row_of x).most → bits_of (value_of x s c n) ≡ Number (row_of x).width n
number_back k.Bool s c n i h = ap (Number 1) (bool_back n h)
number_back k.Int2 s c n i h = signed_back w16 2 n (omega arith)
number_back k.Int4 s c n i h = signed_back w32 4 n (omega arith)
number_back k.Int8 s c n i h = signed_back w64 8 n (omega arith)
number_back k.Float4 s c n i h = bits_back binary32 v.Float4 v.Float4Nan bits_of (Number 4) n (λ x. refl) (λ k. refl) (omega arith)
number_back k.Float8 s c n i h = bits_back binary64 v.Float8 v.Float8Nan bits_of (Number 8) n (λ x. refl) (λ k. refl) (omega arith)
number_back k.TimestampTz s c n i h = signed_back w64 8 n (omega arith)
number_back k.Raw s c n i h = let z : ◌≡◌ {A = ℕ} 0 1 = cc in absurd (omega arith)

-- and it is of the type that was asked for
pub kind_back : (x : ValueKind) (s c n : ℕ) → kind_of (value_of x s c n) ≡ x
kind_back k.Bool s c n = refl
kind_back k.Int2 s c n = refl
kind_back k.Int4 s c n = refl
kind_back k.Int8 s c n = refl
kind_back k.Float4 s c n = go (nan_bits binary32 n)
  where
    go : (b : Bool) → kind_of (cond b (v.Float4Nan n) (v.Float4 (of_bits binary32 n))) ≡ k.Float4
    go true = refl
    go false = refl
kind_back k.Float8 s c n = go (nan_bits binary64 n)
  where
    go : (b : Bool) → kind_of (cond b (v.Float8Nan n) (v.Float8 (of_bits binary64 n))) ≡ k.Float8
    go true = refl
    go false = refl
kind_back k.TimestampTz s c n = refl
kind_back k.Raw s c n = refl

-- each listed kind is that of its line's OID
pub listed_back : (x : ValueKind) → is_raw x ≡ false → kind_of_type (row_of x).oid ≡ x
listed_back k.Bool i = refl
listed_back k.Int2 i = refl
listed_back k.Int4 i = refl
listed_back k.Int8 i = refl
listed_back k.Float4 i = refl
listed_back k.Float8 i = refl
listed_back k.TimestampTz i = refl
listed_back k.Raw i = let z : ◌≡◌ {A = ℕ} 0 1 = cc in absurd (omega arith)

-- a value that a number within its type's line gives is formed
pub formed : (x : ValueKind) (s c n : ℕ) → n ≤ (row_of x).most → Formed (value_of x s c n)
formed k.Bool s c n h = tt
formed k.Int2 s c n h = to_z-Fits w16 n (record { fits = omega arith })
formed k.Int4 s c n h = to_z-Fits w32 n (record { fits = omega arith })
formed k.Int8 s c n h = to_z-Fits w64 n (record { fits = omega arith })
formed k.Float4 s c n h = go (nan_bits binary32 n) refl
  where
    go : (b : Bool) → nan_bits binary32 n ≡ b → Formed (cond b (v.Float4Nan n) (v.Float4 (of_bits binary32 n)))
    go true e = (omega arith, e)
    go false e = (of_bits-fits binary32 n, sym (nan_bits_is binary32 n) ∙ e)
formed k.Float8 s c n h = go (nan_bits binary64 n) refl
  where
    go : (b : Bool) → nan_bits binary64 n ≡ b → Formed (cond b (v.Float8Nan n) (v.Float8 (of_bits binary64 n)))
    go true e = (omega arith, e)
    go false e = (of_bits-fits binary64 n, sym (nan_bits_is binary64 n) ∙ e)
formed k.TimestampTz s c n h = to_z-Fits w64 n (record { fits = omega arith })
formed k.Raw s c n h = tt

-- the number of a value, which is within its type's line, and is read as the value
pub record Spelled (x : Value) : Type 0 where
  pub n : ℕ
  pub form : bits_of x ≡ Number (row_of (kind_of x)).width n
  pub most : n ≤ (row_of (kind_of x)).most
  pub back : (s c : ℕ) → value_of (kind_of x) s c n ≡ x

pub spelled : (x : Value) → Formed x → is_raw (kind_of x) ≡ false → Spelled x
spelled (v.Bool true) f i = record { n = 1; form = refl; most = omega arith; back = λ s c. refl }
spelled (v.Bool false) f i = record { n = 0; form = refl; most = omega arith; back = λ s c. refl }
spelled (v.Int2 z) f i =
    let l : of_z w16 z < 2 ^ 16 = (of_z_fits w16 z f).fits in
    record { n = of_z w16 z; form = refl; most = omega arith; back = λ s c. ap v.Int2 (to_z-of_z w16 z f) }
spelled (v.Int4 z) f i =
    let l : of_z w32 z < 2 ^ 32 = (of_z_fits w32 z f).fits in
    record { n = of_z w32 z; form = refl; most = omega arith; back = λ s c. ap v.Int4 (to_z-of_z w32 z f) }
spelled (v.Int8 z) f i =
    let l : of_z w64 z < 2 ^ 64 = (of_z_fits w64 z f).fits in
    record { n = of_z w64 z; form = refl; most = omega arith; back = λ s c. ap v.Int8 (to_z-of_z w64 z f) }
spelled (v.Float4 x) f i =
    let l : to_bits binary32 x < 2 ^ 32 = to_bits-lt binary32 x f.0 in
    record { n = to_bits binary32 x; form = refl; most = omega arith; back = λ s c. float_back binary32 v.Float4 v.Float4Nan x f.0 f.1 }
spelled (v.Float4Nan n) f i =
    let l : n < 2 ^ 32 = f.0 in
    record { n = n; form = refl; most = omega arith; back = λ s c. pattern_back binary32 v.Float4 v.Float4Nan n f.1 }
spelled (v.Float8 x) f i =
    let l : to_bits binary64 x < 2 ^ 64 = to_bits-lt binary64 x f.0 in
    record { n = to_bits binary64 x; form = refl; most = omega arith; back = λ s c. float_back binary64 v.Float8 v.Float8Nan x f.0 f.1 }
spelled (v.Float8Nan n) f i =
    let l : n < 2 ^ 64 = f.0 in
    record { n = n; form = refl; most = omega arith; back = λ s c. pattern_back binary64 v.Float8 v.Float8Nan n f.1 }
spelled (v.TimestampTz z) f i =
    let l : of_z w64 z < 2 ^ 64 = (of_z_fits w64 z f).fits in
    record { n = of_z w64 z; form = refl; most = omega arith; back = λ s c. ap v.TimestampTz (to_z-of_z w64 z f) }
spelled (v.Raw start count) f i = let z : ◌≡◌ {A = ℕ} 0 1 = cc in absurd (omega arith)
