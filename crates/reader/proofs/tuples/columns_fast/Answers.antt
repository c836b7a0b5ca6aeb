use Rattle.std.proofs.Common.{◌≡◌, ◌-◌, ◌+◌, [], ◌∷◌, ap, sym, ◌∙◌, arith, rules}
use Rattle.std.specs.Prelude.{None}
use Rattle.wire.specs.ValueEnd.{end_of}
use Rattle.message.specs.Layout.{column}
use Rattle.reader.proofs.Groups.{turn, done}
use Rattle.reader.proofs.Fast.{columns-none}
use Rattle.reader.proofs.Offset.{there}
use Rattle.reader.proofs.tuples.columns_fast.Goals as goal

pub loop-k-init : goal.loop-k-init
loop-k-init c = let z : c.args.n - 0 ≡ c.args.n = omega arith in rw z

pub returns-in_err-at : goal.returns-in_err-at
returns-in_err-at c =
    let given : c.from_residual.result ≡ None = search rules in
    given ∙ columns-none _ _ _ (omega arith) c.loop-k.invariant (sym c.in_err-at.was ∙ c.column_fast.ensures)

pub loop-k-preserved : goal.loop-k-preserved
loop-k-preserved c =
    let s : c.args.n - (c.loop-k.k + 1) ≡ c.args.n - c.loop-k.k - 1 = omega arith in
    rw s (turn (column ∷ []) _ _ _ (omega arith) (sym (there _ (sym c.in_ok-at.was ∙ c.column_fast.ensures))) c.loop-k.invariant)

pub returns : goal.returns
returns c = ap end_of (done (column ∷ []) _ _ (omega arith) c.loop-k.invariant)
