use mathlib.Core.Bool.{not}
use mathlib.Core.Path.{refl, ◌∙◌, ap}
use Rattle.session.specs.Answers.{Accepted}
use Rattle.session.specs.Acts.{event_in}
use Rattle.keeper.specs.Rules.{doing}
use Rattle.keeper.specs.Records.{hold}
use Rattle.keeper.specs.Machine.{deed_of}
use Rattle.keeper.proofs.Steps.{passes, refused_by, kept_out, both_stored}
use Rattle.keeper.proofs.step_act.Goals as goal

pub apply-requires : goal.apply-requires
apply-requires c = passes c.judge.result _ c.in-Ok.is _ (c.judge.ensures.ruled Accepted)

pub returns-then-is_err : goal.returns-then-is_err
returns-then-is_err c = let a = c.args in refused_by a.session.now (hold a.buffer.now a.held.now) a.out.now a.bytes.now (event_in a.a a.bytes.now) a.tag (doing (event_in a.a a.bytes.now)) refl _ c.place_in-place.ensures _ c.judge_act-answer.ensures (c.is_err.ensures.negation ∙ ap not c.if-is_err.true)

pub returns-in-Ok : goal.returns-in-Ok
returns-in-Ok c = let a = c.args in
    both_stored a.session.now (hold a.buffer.now a.held.now) a.out.now a.bytes.now (event_in a.a a.bytes.now) a.tag (deed_of c.deed_of-d.result) (c.deed_of-d.ensures a.bytes.now) _ c.place_in-place.ensures _ c.judge_act-answer.ensures (c.is_err.ensures.negation ∙ ap not c.if-is_err.false) c.judge.result (c.judge.ensures.ruled c.judge_act-answer.result) _ c.in-Ok.is _ c.in-Ok.ensures.released _ _ _
    (c.apply_act.ensures a.bytes.now) c.apply.ensures.0 c.apply.ensures.1

pub returns-in-Err : goal.returns-in-Err
returns-in-Err c = let a = c.args in
    rw c.refused.ensures (kept_out a.session.now (hold a.buffer.now a.held.now) a.out.now a.bytes.now (event_in a.a a.bytes.now) a.tag (deed_of c.deed_of-d.result) (c.deed_of-d.ensures a.bytes.now) _ c.place_in-place.ensures _ c.judge_act-answer.ensures (c.is_err.ensures.negation ∙ ap not c.if-is_err.false) c.judge.result (c.judge.ensures.ruled c.judge_act-answer.result) _ c.in-Err.is _ refl)
