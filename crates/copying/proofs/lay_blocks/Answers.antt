use Rattle.std.proofs.Common.{◌≡◌, ◌+◌, ◌*◌, ◌-◌, length, arith, refl}
use Rattle.copying.proofs.Copies.{cut_turn, cut_end}
use Rattle.copying.proofs.lay_blocks.Goals as goal

pub loop-i-preserved : goal.loop-i-preserved
loop-i-preserved c =
    let a = c.args in
    let i = c.loop-i.i in
    let w = 8 * a.eights in
    let z : 0 + i ≡ i = omega arith in
    (omega arith, cut_turn a.tail.now a.part.now 0 0 i w (i + w) (omega arith) refl c.loop-i.invariant.1 (rw z c.lay_block.ensures))

pub returns : goal.returns
returns c =
    let a = c.args in
    let w = 8 * a.eights in
    let inv = c.loop-i.invariant in
    cut_end a.tail.now a.part.now c.loop-i.i (length a.part.now - w) w (omega arith) inv.0 (omega arith) inv.1 c.lay_block-2.ensures
