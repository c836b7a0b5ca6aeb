use Rattle.std.proofs.Common.{◌≤◌, length}
use Rattle.second_reader.proofs.fields.repeated.Given as goal

abbrev pub invariant-loop : goal.invariant-loop
invariant-loop l = (l.from ≤ l.sum.at) × (l.sum.at ≤ length l.s)
