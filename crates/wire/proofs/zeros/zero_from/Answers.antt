use Rattle.std.proofs.Common.{sym, arith}
use Rattle.wire.proofs.Fields.{until_here, until_next, until_end}
use Rattle.wire.proofs.zeros.zero_from.Goals as goal

pub loop-i-init : goal.loop-i-init
loop-i-init c = sym c.skip_eights-start.ensures

pub returns-then-s-i-eq0 : goal.returns-then-s-i-eq0
returns-then-s-i-eq0 c =
    omega (arith, until_here c.args.s.now c.loop-i.i (omega arith) c.if-s-i-eq0.true)

pub loop-i-preserved : goal.loop-i-preserved
loop-i-preserved c =
    omega (arith, until_next c.args.s.now c.loop-i.i (omega arith) c.if-s-i-eq0.false)

pub returns : goal.returns
returns c =
    let s = c.args.s.now in
    grind (arith, until_end s c.loop-i.i, until_end s c.skip_eights-start.result)
