use Rattle.std.proofs.Common.{◌≡◌}
use Rattle.second_reader.proofs.read.Given as goal

abbrev pub invariant-loop-code : goal.invariant-loop-code
invariant-loop-code l = l.reader.bytes.now ≡ l.s
