use Rattle.std.proofs.Common.{◌≡◌, drop}
use Rattle.wire.specs.Fields.{member}
use Rattle.wire.proofs.reader.contains.Given as goal

abbrev pub invariant-loop-letter : goal.invariant-loop-letter
invariant-loop-letter l = member l.set l.b ≡ member (drop l.letter-index l.set) l.b
