use mathlib.Core.Path.{sym}
use Rattle.capi.proofs.stepping.kq_column_start.Goals as goal

pub returns-in-Ok : goal.returns-in-Ok
returns-in-Ok c = rw (sym c.section_start-started.ensures, c.in-Ok.is)

pub returns-in-Err : goal.returns-in-Err
returns-in-Err c = rw (sym c.section_start-started.ensures, c.in-Err.is)
