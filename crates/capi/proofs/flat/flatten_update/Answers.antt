use Rattle.capi.proofs.flat.flatten_update.Goals as goal

pub returns-in-Nothing : goal.returns-in-Nothing
returns-in-Nothing c = rw (c.in-Nothing.is, c.number.ensures)

pub returns-in-Key : goal.returns-in-Key
returns-in-Key c = rw (c.in-Key.is, c.number.ensures)

pub returns-in-Full : goal.returns-in-Full
returns-in-Full c = rw (c.in-Full.is, c.number.ensures)
