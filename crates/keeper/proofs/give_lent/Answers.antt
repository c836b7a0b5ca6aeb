use mathlib.Core.Path.{◌∙◌, ap}
use Rattle.std.specs.Prelude.{Ok}
use Rattle.keeper.specs.Records.{hold}
use Rattle.keeper.proofs.Steps.{heard-is, unread-is}
use Rattle.keeper.proofs.give_lent.Goals as goal

pub returns-in-Ok-Change : goal.returns-in-Ok-Change
returns-in-Ok-Change c = let a = c.args in c.step_change.ensures a.tag a.out.now ∙ heard-is a.session.now (hold a.buffer.now a.held.now) a.out.now a.bytes.now a.tag _ c.look.ensures _ (c.in-Ok-Change.is ∙ ap Ok c.in-Ok-Change.field-0-is)

pub returns-in-Ok-Other : goal.returns-in-Ok-Other
returns-in-Ok-Other c = let a = c.args in c.step_act.ensures ∙ heard-is a.session.now (hold a.buffer.now a.held.now) a.out.now a.bytes.now a.tag _ c.look.ensures _ (c.in-Ok-Other.is ∙ ap Ok c.in-Ok-Other.field-0-is)

pub returns-in-Err : goal.returns-in-Err
returns-in-Err c = let a = c.args in rw c.refused.ensures (unread-is a.session.now (hold a.buffer.now a.held.now) a.out.now a.bytes.now a.tag _ c.look.ensures _ c.in-Err.is)
