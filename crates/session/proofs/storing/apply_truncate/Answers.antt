use Rattle.std.proofs.Common.{refl, ◌∙◌}
use Rattle.session.proofs.Stores.{change_applied}
use Rattle.session.proofs.storing.apply_truncate.Goals as goal

pub returns : goal.returns
returns c = let a = c.args in
    let k = change_applied a.head a.streams.now _ _ _ c.place_of-place.ensures c.flag_of.ensures refl _ _ (c.head_at.ensures ∙ rw c.flagged_at-flagged.ensures) c.mark_at.ensures in
    record { head = k.0; streams = k.1 }
