use mathlib.Core.Path.{sym, ◌∙◌}
use borrow.Author.Tests.{ne_eqb}
use Rattle.capi.proofs.rows.old_tuple.Goals as goal

pub returns-in-75 : goal.returns-in-75
returns-in-75 c = rw (sym c.fitting.ensures ∙ c.in-75.is, c.fitting-start.ensures)

pub returns-in-79 : goal.returns-in-79
returns-in-79 c = rw (sym c.fitting.ensures ∙ c.in-79.is, c.fitting-start.ensures)

pub returns-in_default : goal.returns-in_default
returns-in_default c =
    let l = c.fitting.result in
    rw (← c.fitting.ensures, ne_eqb l 0x4B c.in_default.in_default-own.rest.0.1, ne_eqb l 0x4F c.in_default.in_default-own.rest.1)
