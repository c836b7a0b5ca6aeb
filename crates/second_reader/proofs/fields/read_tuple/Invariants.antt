use Rattle.std.proofs.Common.{◌≤◌, length}
use Rattle.second_reader.proofs.fields.read_tuple.Given as goal

abbrev pub invariant-loop : goal.invariant-loop
invariant-loop l = (l.start ≤ l.end) × (l.end ≤ length l.s) × (l.value_bytes ≤ l.end)
