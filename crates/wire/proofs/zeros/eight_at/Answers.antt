use Rattle.std.proofs.Common.{◌≡◌, ◌+◌, arith}
use Rattle.wire.proofs.Eights.{spelt, spells}
use Rattle.wire.proofs.zeros.eight_at.Goals as goal

pub returns : goal.returns
unfolding spelt
returns c =
    let s = c.args in
    let first : s.at + 0 ≡ s.at = omega arith in
    spells 8 s.s.now s.at _ (omega (arith, c.requires)) (λ p. (c.type_inv.s p).fits) (rw first (omega (arith, c.from_le_bytes.ensures)))
