use Rattle.std.proofs.Common.{◌∙◌, ap}
use Rattle.std.specs.Prelude.{Ok}
use Rattle.session.specs.Acts.{event_in}
use Rattle.session.proofs.Stores.{refused_event, accepted_event, unread-step, change-step, other_step}
use Rattle.session.proofs.give_lent.Goals as goal

pub returns-in_err-looked : goal.returns-in_err-looked
returns-in_err-looked c = let a = c.args in unread-step a.session.now a.bytes.now a.tag _ c.look.ensures _ c.in_err-looked.was _ c.from_residual.ensures.1

pub returns-in-Change : goal.returns-in-Change
returns-in-Change c = let a = c.args in change-step a.session.now a.bytes.now a.tag _ c.look.ensures _ _ _ (c.in_ok-looked.was ∙ ap Ok c.in-Change.is) _ (λ y. c.step_change.ensures y a.tag)

pub returns-in_ok-seen-in-Other : goal.returns-in_ok-seen-in-Other
returns-in_ok-seen-in-Other c = let a = c.args in let s = a.session.now in let e = event_in c.in-Other.a a.bytes.now in
    other_step s a.bytes.now a.tag _ c.look.ensures _ (c.in_ok-looked.was ∙ ap Ok c.in-Other.is) _ (accepted_event s e a.tag _ c.judge_act.ensures _ c.in_ok-seen-in-Other.was _ (c.apply_act.ensures a.bytes.now))

pub returns-in_err-seen-in-Other : goal.returns-in_err-seen-in-Other
returns-in_err-seen-in-Other c = let a = c.args in let s = a.session.now in let e = event_in c.in-Other.a a.bytes.now in
    other_step s a.bytes.now a.tag _ c.look.ensures _ (c.in_ok-looked.was ∙ ap Ok c.in-Other.is) _ (refused_event s e a.tag _ c.judge_act.ensures _ c.in_err-seen-in-Other.was _ c.from_residual-in_err-seen-in-Other.ensures.1)
