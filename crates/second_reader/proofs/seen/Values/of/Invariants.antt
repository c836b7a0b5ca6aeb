use Rattle.std.proofs.Common.{◌≡◌, take, drop, replicate}
use Rattle.second_reader.specs.Listed.{listed, unused}
use Rattle.second_reader.proofs.seen.Values.of.Given as goal

abbrev pub invariant-loop-number : goal.invariant-loop-number
invariant-loop-number l = (listed l.values ≡ take 16 (take l.number-index l.numbers)) × (unused l.values ≡ drop l.number-index (replicate 16 0))
