use mathlib.Core.Bool.{not}
use mathlib.Core.Path.{refl, ◌∙◌, ap}
use lib.ListN.{length}
use Rattle.session.specs.Answers.{Accepted}
use Rattle.session.specs.Events.{Change}
use Rattle.session.specs.Acts.{tuples_of}
use Rattle.keeper.specs.Rules.{keeps}
use Rattle.keeper.specs.Records.{hold}
use Rattle.keeper.proofs.Steps.{passes, handed-on, refused_by, kept_out, both_stored}
use Rattle.keeper.proofs.step_change.Goals as goal

pub join-requires : goal.join-requires
join-requires c = passes c.rule_room.result _ c.in_ok-rule_room.was _ (c.rule_room.ensures 0 0 Accepted)

pub returns-then-is_err : goal.returns-then-is_err
returns-then-is_err c = let a = c.args in λ tag out. refused_by a.session.now (hold a.buffer.now a.held.now) out a.bytes.now (Change a.own a.oid (tuples_of a.t)) tag (keeps a.own) refl _ c.place_in-place.ensures _ (c.judge_change-answer.ensures a.own) (c.is_err.ensures.negation ∙ ap not c.if-is_err.true)

pub returns-in_err-rule_room : goal.returns-in_err-rule_room
returns-in_err-rule_room c = let a = c.args in λ tag out.
    kept_out a.session.now (hold a.buffer.now a.held.now) out a.bytes.now (Change a.own a.oid (tuples_of a.t)) tag (keeps a.own) refl _ c.place_in-place.ensures _ (c.judge_change-answer.ensures a.own) (c.is_err.ensures.negation ∙ ap not c.if-is_err.false) c.rule_room.result (c.rule_room.ensures (length out) 0 c.judge_change-answer.result) _ c.in_err-rule_room.was _ (handed-on _ _ c.from_residual.ensures.1)

pub returns : goal.returns
returns c = let a = c.args in λ tag out.
    both_stored a.session.now (hold a.buffer.now a.held.now) out a.bytes.now (Change a.own a.oid (tuples_of a.t)) tag (keeps a.own) refl _ c.place_in-place.ensures _ (c.judge_change-answer.ensures a.own) (c.is_err.ensures.negation ∙ ap not c.if-is_err.false) c.rule_room.result (c.rule_room.ensures (length out) 0 c.judge_change-answer.result) _ c.in_ok-rule_room.was 0 refl _ _ _
    (c.apply_change.ensures a.own a.oid (tuples_of a.t) tag) refl c.join.ensures
