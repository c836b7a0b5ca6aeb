use Rattle.std.proofs.Common.{◌≡◌, ◌+◌, ◌*◌, arith}
use Rattle.copying.proofs.Copies.{cut_turn}
use Rattle.copying.proofs.lay_block.Goals as goal

pub loop-k-preserved : goal.loop-k-preserved
loop-k-preserved c =
    let a = c.args in
    let k = c.loop-k.k in
    cut_turn a.tail.now a.part.now a.at a.at (8 * k) 8 (8 * (k + 1)) (omega arith) (omega arith) c.loop-k.invariant c.lay_eight.ensures

pub returns : goal.returns
returns c =
    let full : c.loop-k.k ≡ c.args.eights = omega arith in
    rw full at c.loop-k.invariant
