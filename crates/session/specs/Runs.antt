-- To be believed (demand 3). What a session answers to a list of messages, and the record that they leave: each goes to the record as the last one left it.
use Rattle.std.specs.Prelude.{List, [], ◌∷◌}
use Rattle.session.specs.Answers.{Answer}
use Rattle.session.specs.declared.Session.{Session}
use Rattle.session.specs.History.{Given, given}
use Rattle.session.specs.Machine.{step_of}

unfoldable pub run : Session → List Given → List Answer
run s [] = []
run s (given xs g ∷ l) = (step_of s xs g).answer ∷ run (step_of s xs g).session l

unfoldable pub after : Session → List Given → Session
after s [] = s
after s (given xs g ∷ l) = after (step_of s xs g).session l
