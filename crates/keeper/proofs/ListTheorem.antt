-- DEMAND 3 WITH A KEEPER (request 101): a fresh session with an empty keeper does to every list of messages exactly what the rules over history say.
use Prim.Native.Nat.{ℕ}
use mathlib.Core.Path.{◌≡◌, refl, ◌∙◌}
use mathlib.Core.List.{List, []}
use Rattle.session.specs.Rules.{Start, version_of}
use Rattle.session.specs.Machine.{start_of}
use Rattle.session.proofs.Runs.{version_for}
use Rattle.session.proofs.ListTheorem.{start-hears, starts}
use Rattle.keeper.specs.Rules.{Call, outcomes}
use Rattle.keeper.specs.Records.{hold}
use Rattle.keeper.specs.Runs.{run}
use Rattle.keeper.proofs.Runs.{agree_run, same_hearing_outcomes}

-- However the session starts, whatever is in the buffer that is lent to the keeper and however long it is, and whatever the messages are, any
-- bytes with any tags and any outputs: what a session with a keeper that holds nothing does to them (`run`, the fold of `step_of`, with record and
-- buffer as the last message left them) is what the rules over the list say (`outcomes`): to each message the same answer and the same
-- number of released bytes; its output then has the released records and its old rest, the buffer the records that history keeps, packed in
-- arrival order, and its old rest; and as many bytes are held as these records have.
-- Nothing is assumed of the list, of its length, of the buffer or of the version.
pub keeper_outcomes : (start : Start) (buffer : List ℕ) (l : List Call) → run (start_of start) (hold buffer 0) l ≡ outcomes (version_of start) buffer [] l
keeper_outcomes start buffer l =
    agree_run l (start_of start) (hold buffer 0) [] (record { told = starts start; sound = tt; held = refl; lies = refl })
    ∙ same_hearing_outcomes (version_for (start_of start)) (version_of start) (start-hears start) l buffer []
