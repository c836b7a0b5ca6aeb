-- To be believed (`same-answers` alone). A session over any layout of the announcements, with no record: each message is heard and answered, and an accepted one makes the next state.
-- The list theorem does not need this file; that two layouts answer alike does.
use Rattle.std.specs.Prelude.{ℕ, List, [], ◌∷◌, cond}
use Rattle.message.specs.declared.Version.{Version}
use Rattle.session.specs.Answers.{Answer}
use Rattle.session.specs.Answers as answer
use Rattle.session.specs.History.{Given, given}
use Rattle.session.specs.Rules.{accepts, Heard, unread, heard, hears}
use Rattle.session.specs.State.{Layout, StateOf, answer_by, state_by}

abbrev pub answer_heard : (L : Layout) → StateOf L.Rows → Heard → Answer
answer_heard L s (unread n o) = answer.Refused n o
answer_heard L s (heard e) = answer_by L s e

abbrev pub state_heard : (L : Layout) → StateOf L.Rows → Heard → ℕ → StateOf L.Rows
state_heard L s (unread n o) g = s
state_heard L s (heard e) g = cond (accepts (answer_by L s e)) (state_by L s e g) s

unfoldable pub run_by : (L : Layout) → Version → StateOf L.Rows → List Given → List Answer
run_by L v s [] = []
run_by L v s (given xs g ∷ l) = answer_heard L s (hears v s.place xs) ∷ run_by L v (state_heard L s (hears v s.place xs) g) l
