use Rattle.std.proofs.Common.{length}
use Rattle.examples.specs.Places.{Onward}
use Rattle.examples.proofs.text.Text.hex.Given as goal

abbrev pub invariant-loop-next : goal.invariant-loop-next
invariant-loop-next l = Onward l.initial.self.rest.now l.self.rest.now

abbrev pub decreases-loop-next : goal.decreases-loop-next
decreases-loop-next l = length l.self.rest.now
