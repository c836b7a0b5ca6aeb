use Rattle.std.proofs.Common.{arith}
use Rattle.catalog.specs.Opens.{mark_in}
use Rattle.catalog.proofs.StreamLaws.{mark_start, mark_turn, mark_end}
use Rattle.catalog.proofs.streams.Streams.mark.Goals as goal

pub loop-i-init : goal.loop-i-init
loop-i-init c = let a = c.args in mark_start a.x a.self.now (omega arith) (omega arith)

pub loop-i-preserved : goal.loop-i-preserved
loop-i-preserved c = let a = c.args in let l = c.loop-i in mark_turn a.x a.self.now (omega arith) l.self l.i l.invariant c.loop-i-test.true _ c.marked_byte.ensures

pub returns : goal.returns
unfolding mark_in
returns c = let a = c.args in let l = c.loop-i in mark_end a.x a.self.now (omega arith) l.self l.i l.invariant c.loop-i-test.false
