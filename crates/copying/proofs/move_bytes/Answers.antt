use Rattle.std.proofs.Common.{◌≡◌, ◌+◌, arith, refl}
use Rattle.copying.proofs.Copies.{move_turn, cut-one}
use Rattle.copying.proofs.move_bytes.Goals as goal

pub loop-i-preserved : goal.loop-i-preserved
loop-i-preserved c =
    let a = c.args in
    let l = c.loop-i in
    let one = cut-one l.buffer (a.from + l.i) (omega arith) in
    move_turn a.buffer.now a.to a.from l.i 1 (l.i + 1) (omega arith) (omega arith) refl l.invariant (rw one)

pub returns : goal.returns
returns c =
    let full : c.loop-i.i ≡ c.args.n = omega arith in
    rw full at c.loop-i.invariant
