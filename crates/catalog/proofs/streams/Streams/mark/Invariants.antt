use Rattle.catalog.proofs.StreamLaws.{Marking}
use Rattle.catalog.proofs.streams.Streams.mark.Given as goal

abbrev pub invariant-loop-i : goal.invariant-loop-i
invariant-loop-i l = Marking l.x l.fn.self l.self l.i
