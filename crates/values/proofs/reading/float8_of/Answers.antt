use lib.Ieee.{binary64}
use Rattle.values.proofs.Floats.{above, below, no_nan}
use Rattle.values.proofs.reading.float8_of.Goals as goal

pub float_from_bits-x : goal.float_from_bits-x
float_from_bits-x c = no_nan (below binary64 c.args.n c.if-n-gt9218868437227405312.false)

pub returns-then-n-gt9218868437227405312 : goal.returns-then-n-gt9218868437227405312
returns-then-n-gt9218868437227405312 c = rw (above binary64 c.args.n c.if-n-gt9218868437227405312.true)

pub returns-else-n-gt9218868437227405312 : goal.returns-else-n-gt9218868437227405312
returns-else-n-gt9218868437227405312 c = rw (below binary64 c.args.n c.if-n-gt9218868437227405312.false)
