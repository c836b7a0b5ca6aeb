use mathlib.Core.Path.{◌∙◌, ap}
use Rattle.session.specs.Answers.{Accepted}
use Rattle.session.specs.Rules.{named}
use Rattle.session.specs.Listed.{messages_in, last_or}
use Rattle.session.proofs.ListTheorem.{session-answers}
use Rattle.session.proofs.Listings.{turn, done}
use Rattle.session.proofs.last_answer.Goals as goal

pub loop-i-init : goal.loop-i-init
loop-i-init c = rw c.start.ensures

pub loop-i-preserved : goal.loop-i-preserved
loop-i-preserved c = let l = c.loop-i in let a = c.args in
    turn a.bytes.now a.ends.now a.tags.now l.now.session l.now.answer l.from l.i c.loop-i-test.true _ c.tag_at.ensures _ (rw c.part.ensures at c.step-now.ensures) l.invariant

pub returns : goal.returns
returns c = let l = c.loop-i in let a = c.args in
    done a.bytes.now a.ends.now a.tags.now l.now.session l.now.answer l.from l.i c.loop-i-test.false l.invariant
    ∙ ap (last_or Accepted) (session-answers (named a.version) (messages_in a.bytes.now 0 a.ends.now a.tags.now))
