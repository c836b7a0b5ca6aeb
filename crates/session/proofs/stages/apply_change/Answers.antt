use Rattle.std.proofs.Common.{refl}
use Rattle.session.specs.Events.{Change}
use Rattle.session.specs.State.{state_after}
use Rattle.session.specs.Machine.{parts, view}
use Rattle.session.proofs.Stores.{stored, stored_is}
use Rattle.session.proofs.stages.apply_change.Goals as goal

pub returns : goal.returns
returns c = let s = c.args.session.now in let e = c.apply_change-next.ensures in λ x oid ts tag.
    let p = parts c.head_in.result s.streams s.announcements in
    stored_is s _ c.head_in.ensures (Change x oid ts) tag _ _ _ _ c.words_of-session.ensures (stored p (state_after (view p) (Change x oid ts) tag) _ _ _ _ e.head e.streams refl)
