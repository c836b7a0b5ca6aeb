use mathlib.Core.Path.{◌≡◌}
use lib.ListN.{drop}
use Rattle.session.specs.Answers.{Accepted}
use Rattle.session.specs.Rules.{named}
use Rattle.session.specs.Machine.{start_of}
use Rattle.session.specs.Runs.{run}
use Rattle.session.specs.Listed.{messages_in, last_or}
use Rattle.session.proofs.last_answer.Given as goal

-- `session::last_answer` meets its contract. Assumes nothing.
abbrev pub invariant-loop-i : goal.invariant-loop-i
invariant-loop-i l = last_or l.now.answer (run l.now.session (messages_in l.bytes l.from (drop l.i l.ends) (drop l.i l.tags))) ≡ last_or Accepted (run (start_of (named l.version)) (messages_in l.bytes 0 l.ends l.tags))
