use Rattle.std.proofs.Common.{◌≡◌, ◌+◌, drop}
use Rattle.wire.specs.Fields.{until_zero}
use Rattle.wire.proofs.zeros.zero_from.Given as goal

abbrev pub invariant-loop-i : goal.invariant-loop-i
invariant-loop-i l = l.at + until_zero (drop l.at l.s) ≡ l.i + until_zero (drop l.i l.s)
