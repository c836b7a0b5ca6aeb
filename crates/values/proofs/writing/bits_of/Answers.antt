use mir.Syntax.{w16, w32, w64}
use mir.Val.{SFits}
use mir.ValLaws.{to_z-of_z}
use Rattle.values.proofs.Spelled.{byte_of}
use borrow.Author.Rules.{rules}
use Rattle.values.proofs.writing.bits_of.Goals as goal

pub returns-in-Bool : goal.returns-in-Bool
returns-in-Bool c = rw (c.number.ensures, c.in-Bool.is, byte_of)

pub returns-in-Int2 : goal.returns-in-Int2
returns-in-Int2 c =
    let z = c.in-Int2.v in
    let s : SFits w16 z = search rules in
    rw (c.number-in-Int2.ensures, c.cast_unsigned.ensures, c.in-Int2.is, to_z-of_z w16 z s)

pub returns-in-Int4 : goal.returns-in-Int4
returns-in-Int4 c =
    let z = c.in-Int4.v in
    let s : SFits w32 z = search rules in
    rw (c.number-in-Int4.ensures, c.cast_unsigned-in-Int4.ensures, c.in-Int4.is, to_z-of_z w32 z s)

pub returns-in-Int8 : goal.returns-in-Int8
returns-in-Int8 c =
    let z = c.in-Int8.v in
    let s : SFits w64 z = search rules in
    rw (c.number-in-Int8.ensures, c.cast_unsigned-in-Int8.ensures, c.in-Int8.is, to_z-of_z w64 z s)

pub returns-in-Float4 : goal.returns-in-Float4
returns-in-Float4 c = rw (c.number-in-Float4.ensures, c.float4_bits.ensures, c.in-Float4.is)

pub returns-in-Float4Nan : goal.returns-in-Float4Nan
returns-in-Float4Nan c = rw (c.number-in-Float4Nan.ensures, c.in-Float4Nan.is)

pub returns-in-Float8 : goal.returns-in-Float8
returns-in-Float8 c = rw (c.number-in-Float8.ensures, c.float8_bits.ensures, c.in-Float8.is)

pub returns-in-Float8Nan : goal.returns-in-Float8Nan
returns-in-Float8Nan c = rw (c.number-in-Float8Nan.ensures, c.in-Float8Nan.is)

pub returns-in-TimestampTz : goal.returns-in-TimestampTz
returns-in-TimestampTz c =
    let z = c.in-TimestampTz.v in
    let s : SFits w64 z = search rules in
    rw (c.number-in-TimestampTz.ensures, c.cast_unsigned-in-TimestampTz.ensures, c.in-TimestampTz.is, to_z-of_z w64 z s)

pub returns-in-Raw : goal.returns-in-Raw
returns-in-Raw c = rw c.in-Raw.is
