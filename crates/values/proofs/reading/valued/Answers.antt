use native.Mathlib.Omega.{arith}
use mir.Syntax.{w16, w32, w64}
use Rattle.values.specs.declared.ValueKind.TheVariants as k
use Rattle.values.proofs.Typed.{within}
use Rattle.values.proofs.Spelled.{kept}
use Rattle.values.proofs.reading.valued.Goals as goal

pub overflow_cast-number : goal.overflow_cast-number
overflow_cast-number c = omega (arith, within _ k.Int2 _ c.in-Int2.is c.requires)

pub overflow_cast-number-in-Int4 : goal.overflow_cast-number-in-Int4
overflow_cast-number-in-Int4 c = omega (arith, within _ k.Int4 _ c.in-Int4.is c.requires)

pub overflow_cast-number-in-Float4 : goal.overflow_cast-number-in-Float4
overflow_cast-number-in-Float4 c = omega (arith, within _ k.Float4 _ c.in-Float4.is c.requires)

pub returns-in-Bool : goal.returns-in-Bool
returns-in-Bool c = rw c.in-Bool.is

pub returns-in-Int2 : goal.returns-in-Int2
returns-in-Int2 c =
    let h = within _ k.Int2 _ c.in-Int2.is c.requires in
    rw (c.cast_signed.ensures, c.in-Int2.is, kept w16 c.args.number (omega (arith, h)))

pub returns-in-Int4 : goal.returns-in-Int4
returns-in-Int4 c =
    let h = within _ k.Int4 _ c.in-Int4.is c.requires in
    rw (c.cast_signed-in-Int4.ensures, c.in-Int4.is, kept w32 c.args.number (omega (arith, h)))

pub returns-in-Int8 : goal.returns-in-Int8
returns-in-Int8 c =
    rw (c.cast_signed-in-Int8.ensures, c.in-Int8.is, kept w64 c.args.number c.ranges.number.fits)

pub returns-in-Float4 : goal.returns-in-Float4
returns-in-Float4 c = rw (c.float4_of.ensures, c.in-Float4.is)

pub returns-in-Float8 : goal.returns-in-Float8
returns-in-Float8 c = rw (c.float8_of.ensures, c.in-Float8.is)

pub returns-in-TimestampTz : goal.returns-in-TimestampTz
returns-in-TimestampTz c =
    rw (c.cast_signed-in-TimestampTz.ensures, c.in-TimestampTz.is, kept w64 c.args.number c.ranges.number.fits)

pub returns-in-Raw : goal.returns-in-Raw
returns-in-Raw c = rw c.in-Raw.is
