use Rattle.std.proofs.Common.{refl, sym, ◌∙◌}
use Rattle.session.proofs.Stores.{change_applied}
use Rattle.session.proofs.storing.apply_change.Goals as goal

pub returns-in-Idle : goal.returns-in-Idle
returns-in-Idle c = let a = c.args in
    let k = change_applied a.head a.streams.now _ _ _ c.place_of-place.ensures c.flag_of-flagged.ensures c.in-Idle.is _ _ c.head_at.ensures refl in
    record { head = k.0; streams = k.1 }

pub returns-in-Transaction : goal.returns-in-Transaction
returns-in-Transaction c = let a = c.args in
    let k = change_applied a.head a.streams.now _ _ _ c.place_of-place.ensures c.flag_of-flagged.ensures c.in-Transaction.is _ _ c.head_at-in-Transaction.ensures refl in
    record { head = k.0; streams = k.1 }

pub returns-in-Block : goal.returns-in-Block
returns-in-Block c = let a = c.args in
    let k = change_applied a.head a.streams.now _ _ _ (sym c.in-Block.is ∙ c.place_of-place.ensures) c.flag_of-flagged.ensures refl _ _ c.head_at-in-Block.ensures c.mark.ensures in
    record { head = k.0; streams = k.1 }
