use Rattle.std.proofs.Common.{refl}
use Rattle.copying.proofs.Copies.{byte_turn, byte_end}
use Rattle.copying.proofs.lay_bytes.Goals as goal

pub loop-i-preserved : goal.loop-i-preserved
loop-i-preserved c = byte_turn _ _ _ c.loop-i-test.true refl c.loop-i.invariant

pub returns : goal.returns
returns c = byte_end _ _ _ c.loop-i-test.false c.loop-i.invariant
