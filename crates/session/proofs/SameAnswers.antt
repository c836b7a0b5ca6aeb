-- Sorted rows answer every list of messages as the layout before did. Assumes nothing.
use mathlib.Core.Path.{◌≡◌, sym, ◌∙◌}
use mathlib.Core.List.{List, []}
use Rattle.session.specs.History.{Given}
use Rattle.session.specs.Rules.{Start, version_of}
use Rattle.session.specs.State.{fresh_by}
use Rattle.session.specs.Layouts.{run_by}
use Rattle.session.specs.FirstFit.{first_fit}
use Rattle.session.specs.Machine.{start_of}
use Rattle.session.specs.Runs.{run}
use Rattle.session.proofs.Agreement.{fresh}
use Rattle.session.proofs.Runs.{layout-run}
use Rattle.session.proofs.FirstFit.{guarded, guarded_lawful, plain_run}
use Rattle.session.proofs.ListTheorem.{session-answers}

-- However the session starts and whatever the messages are: each answer is the one that the rows gave when they lay in any order.
pub same-answers : (start : Start) (l : List Given) → run (start_of start) l ≡ run_by first_fit (version_of start) (fresh_by first_fit) l
same-answers start l =
    session-answers start l
    ∙ sym (layout-run guarded guarded_lawful (version_of start) l (fresh_by guarded) [] (fresh guarded guarded_lawful))
    ∙ plain_run (version_of start) l (fresh_by first_fit)
