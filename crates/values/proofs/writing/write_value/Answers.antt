use mathlib.Core.Path.{sym}
use Rattle.values.proofs.writing.write_value.Goals as goal

pub returns : goal.returns
returns c = rw (sym c.bits_of-bits.ensures) c.write_bits.ensures
