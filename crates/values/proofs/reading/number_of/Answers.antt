use Rattle.std.proofs.Common.{ap}
use Rattle.wire.specs.Readers.{given}
use Rattle.values.proofs.Typed.{raw_number}
use Rattle.values.proofs.reading.number_of.Goals as goal

pub returns-in-Raw : goal.returns-in-Raw
returns-in-Raw c = ap given (raw_number _ _ _ c.in-Raw.is c.requires)
