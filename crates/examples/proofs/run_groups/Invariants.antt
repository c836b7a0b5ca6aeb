use Rattle.std.proofs.Common.{length}
use Rattle.examples.proofs.run_groups.Given as goal

abbrev pub decreases-loop-group : goal.decreases-loop-group
decreases-loop-group g l = length l.text.rest.now
