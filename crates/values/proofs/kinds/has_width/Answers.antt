use Rattle.values.proofs.Typed.{listed-one}
use Rattle.values.proofs.kinds.has_width.Goals as goal

pub returns-in_default : goal.returns-in_default
returns-in_default c = rw (c.row_of.ensures, listed-one c.args.kind c.in_default.not-Raw)
