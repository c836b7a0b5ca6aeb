use Rattle.session.specs.Events.{Change}
use Rattle.session.specs.Acts.{tuples_of}
use Rattle.session.proofs.Stores.{answer-is}
use Rattle.session.proofs.stages.judge_change.Goals as goal

pub returns : goal.returns
returns c = let a = c.args in λ x. answer-is a.session.now _ c.head_in-now.ensures (Change x a.oid (tuples_of a.tuples)) _ c.judge_change.ensures
