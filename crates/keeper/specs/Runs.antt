-- To be believed (demand 3 with a keeper). A session and a keeper given a list of messages one after another.
use Rattle.std.specs.Prelude.{List, [], ◌∷◌}
use Rattle.session.specs.declared.Session.{Session}
use Rattle.session.specs.History.{given}
use Rattle.keeper.specs.Rules.{Call, call, Outcome}
use Rattle.keeper.specs.Records.{Hold, hold}
use Rattle.keeper.specs.Machine.{step_of}

-- each message goes to session and buffer as the last one left them, with an output of its own
unfoldable pub run : Session → Hold → List Call → List Outcome
run s b [] = []
run s b (call (given xs g) out ∷ l) =
    let r = step_of s b out xs g in
    r.outcome ∷ run r.session (hold r.outcome.buffer r.outcome.held) l
