use Rattle.session.specs.Acts.{event_in}
use Rattle.session.proofs.Stores.{answer-is}
use Rattle.session.proofs.stages.judge_act.Goals as goal

pub returns : goal.returns
returns c = let a = c.args in answer-is a.session.now _ c.head_in-now.ensures (event_in a.a a.bytes.now) _ c.judge.ensures
