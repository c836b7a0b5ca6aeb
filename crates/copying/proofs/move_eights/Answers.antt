use Rattle.std.proofs.Common.{◌≡◌, ◌+◌, ◌*◌, arith}
use Rattle.message.specs.Encode.{cut}
use Rattle.copying.proofs.Copies.{set_in_tail, move_turn}
use Rattle.copying.proofs.move_eights.Goals as goal

pub loop-k-preserved : goal.loop-k-preserved
loop-k-preserved c =
    let a = c.args in
    let l = c.loop-k in
    let eight = cut l.buffer (a.from + 8 * l.k) 8 in
    let stored = set_in_tail l.buffer (a.to + 8 * l.k) eight (omega arith) c.eight_at-v.ensures c.lay_digits.ensures in
    move_turn a.buffer.now a.to a.from (8 * l.k) 8 (8 * (l.k + 1)) (omega arith) (omega arith) (omega arith) l.invariant stored

pub returns : goal.returns
returns c =
    let full : c.loop-k.k ≡ c.args.eights = omega arith in
    rw full at c.loop-k.invariant
