use Rattle.capi.proofs.rows.span.Goals as goal

pub returns : goal.returns
returns c = rw (c.fitting-2.ensures, c.fitting.ensures)
