use Rattle.std.proofs.Common.{sym, refl, ◌∙◌, arith}
use Rattle.wire.proofs.Eights.{until_past}
use Rattle.wire.proofs.zeros.skip_eights.Goals as goal

pub returns-then-s-lt8 : goal.returns-then-s-lt8
returns-then-s-lt8 c = refl

pub overflow_sub-last : goal.overflow_sub-last
overflow_sub-last c = omega arith

pub loop-i-init : goal.loop-i-init
loop-i-init c = refl

pub eight_at-requires : goal.eight_at-requires
eight_at-requires c = omega arith

pub returns-then-has_zero_byte : goal.returns-then-has_zero_byte
returns-then-has_zero_byte c = omega arith

pub overflow_add-i : goal.overflow_add-i
overflow_add-i c = omega arith

pub loop-i-smaller : goal.loop-i-smaller
loop-i-smaller c = omega arith

pub loop-i-preserved : goal.loop-i-preserved
loop-i-preserved c =
    let none = sym (rw c.eight_at.ensures at c.has_zero_byte.ensures) ∙ c.if-has_zero_byte.false in
    omega (arith, until_past 8 c.loop-i.i c.args.s.now (omega arith) none)

pub returns : goal.returns
returns c = omega arith
