use lib.Ieee.{binary32}
use Rattle.values.proofs.Floats.{above, below, no_nan}
use Rattle.values.proofs.reading.float4_of.Goals as goal

pub float_from_bits-x : goal.float_from_bits-x
float_from_bits-x c = no_nan (below binary32 c.args.n c.if-n-gt2139095040.false)

pub returns-then-n-gt2139095040 : goal.returns-then-n-gt2139095040
returns-then-n-gt2139095040 c = rw (above binary32 c.args.n c.if-n-gt2139095040.true)

pub returns-else-n-gt2139095040 : goal.returns-else-n-gt2139095040
returns-else-n-gt2139095040 c = rw (below binary32 c.args.n c.if-n-gt2139095040.false)
