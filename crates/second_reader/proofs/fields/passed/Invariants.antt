use Rattle.std.proofs.Common.{◌≤◌, length}
use Rattle.second_reader.proofs.fields.passed.Given as goal

abbrev pub invariant-loop-code : goal.invariant-loop-code
invariant-loop-code l = (l.from ≤ l.sum.at) × (l.sum.at ≤ length l.s)
