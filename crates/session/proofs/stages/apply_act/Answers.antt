use Rattle.session.specs.Acts.{event_in}
use Rattle.session.proofs.Stores.{stored_is}
use Rattle.session.proofs.stages.apply_act.Goals as goal

pub returns : goal.returns
returns c = let a = c.args in λ xs. stored_is a.session.now _ c.head_in-now.ensures (event_in a.a xs) a.tag _ _ _ _ c.words_of-session.ensures (c.apply-next.ensures xs)
