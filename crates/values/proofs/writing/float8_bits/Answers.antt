use lib.Ieee.{to_bits}
use Rattle.values.proofs.Floats.{differs, equals}
use Rattle.values.proofs.writing.float8_bits.Goals as goal

pub returns-then-x : goal.returns-then-x
unfolding to_bits
returns-then-x c = rw (differs c.args.x c.if-x.true)

pub float_to_bits-result : goal.float_to_bits-result
float_to_bits-result c = equals c.args.x c.if-x.false
