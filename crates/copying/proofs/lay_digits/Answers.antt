use Rattle.std.proofs.Common.{refl}
use Rattle.copying.proofs.Copies.{digit_turn, digit_end}
use Rattle.copying.proofs.lay_digits.Goals as goal

pub loop-k-preserved : goal.loop-k-preserved
loop-k-preserved c = digit_turn _ _ _ c.loop-k-test.true refl c.loop-k.invariant

pub returns : goal.returns
returns c = digit_end _ _ _ c.loop-k-test.false c.loop-k.invariant
