use Rattle.std.proofs.Common.{◌≡◌, ap, rules}
use Rattle.std.specs.Prelude.{Err}
use Rattle.session.specs.Rules.{heard}
use Rattle.session.proofs.Stores.{looked-is}
use Rattle.session.proofs.stages.look.Goals as goal

pub returns : goal.returns
returns c = let a = c.args in looked-is a.head.now a.bytes.now _ _ _ _ c.head_in-now.ensures c.place_of-place.ensures c.in_block.ensures c.read_message.ensures _ (rw c.in_ok-m.was (ap heard c.looked_at.ensures))

pub returns-in_err-m : goal.returns-in_err-m
returns-in_err-m c =
    let a = c.args in
    let given : c.from_residual.result ≡ Err c.in_err-m.field-0.0 = search rules in
    rw given (looked-is a.head.now a.bytes.now _ _ _ _ c.head_in-now.ensures c.place_of-place.ensures c.in_block.ensures c.read_message.ensures _ (rw c.in_err-m.was))
