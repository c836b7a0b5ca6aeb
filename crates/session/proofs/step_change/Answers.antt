use Rattle.session.specs.Events.{Change}
use Rattle.session.specs.Acts.{tuples_of}
use Rattle.session.proofs.Stores.{refused_event, accepted_event}
use Rattle.session.proofs.step_change.Goals as goal

pub returns : goal.returns
returns c = let a = c.args in λ x tag. accepted_event a.session.now (Change x a.oid (tuples_of a.tuples)) tag _ (c.judge_change.ensures x) _ c.in_ok-seen.was _ (c.apply_change.ensures x a.oid (tuples_of a.tuples) tag)

pub returns-in_err-seen : goal.returns-in_err-seen
returns-in_err-seen c = let a = c.args in λ x tag. refused_event a.session.now (Change x a.oid (tuples_of a.tuples)) tag _ (c.judge_change.ensures x) _ c.in_err-seen.was _ c.from_residual.ensures.1
