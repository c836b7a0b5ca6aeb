use Rattle.std.proofs.Common.{sym, ◌∙◌}
use Rattle.values.proofs.Typed.{step_over, step_refused, step_typed}
use Rattle.values.proofs.reading.typed_step.Goals as goal

pub returns-then-position-eq0 : goal.returns-then-position-eq0
returns-then-position-eq0 c = step_over _ _ _ c.if-position-eq0.true

pub returns-in-Err : goal.returns-in-Err
returns-in-Err c = step_refused c.args.message.now c.args.position c.args.type_oid c.if-position-eq0.false (sym c.typed_item.ensures.0 ∙ c.in-Err.is)

pub returns-in-Ok : goal.returns-in-Ok
returns-in-Ok c = rw (c.offset.ensures, c.typed_item.ensures.1) (step_typed c.args.message.now c.args.position c.args.type_oid c.if-position-eq0.false (sym c.typed_item.ensures.0 ∙ c.in-Ok.is))
