use Rattle.std.proofs.Common.{◌≡◌, ◌-◌, ◌+◌, refl, sym, ◌∙◌, arith, rules}
use Rattle.std.specs.Prelude.{Err}
use Rattle.wire.proofs.Given.{stopped}
use Rattle.message.specs.Layout.{read_group}
use Rattle.message.proofs.Local.{group_local}
use Rattle.reader.specs.Passed.{passed}
use Rattle.reader.proofs.Groups.{turn, done, refused}
use Rattle.reader.proofs.passing.groups_end.Goals as goal

pub loop-k-init : goal.loop-k-init
loop-k-init g c = let z : c.args.n - 0 ≡ c.args.n = omega arith in (refl, rw z)

pub returns-in_err-pass : goal.returns-in_err-pass
returns-in_err-pass g c =
    let why = c.in_err-pass.field-0.0 in
    let given : c.from_residual.result ≡ Err why = search rules in
    let e : (read_group g.G.Group.fields c.args.s.now c.loop-k.r.next).next ≡ Err why = rw c.loop-k.invariant.0 at (stopped (passed (read_group g.G.Group.fields c.loop-k.r.bytes.now c.loop-k.r.next).next) (sym c.pass.ensures.value ∙ c.in_err-pass.was)) in
    given ∙ refused g.G.Group.fields _ _ c.loop-k.r.next (omega arith) ((group_local g.G.Group.fields).stays c.args.s.now why.number why.offset) (sym e) refl c.loop-k.invariant.1

pub loop-k-preserved : goal.loop-k-preserved
loop-k-preserved g c =
    let s : c.args.n - (c.loop-k.k + 1) ≡ c.args.n - c.loop-k.k - 1 = omega arith in
    let next = rw c.loop-k.invariant.0 at c.pass.ensures.stands_at in
    rw next (refl, rw s (turn g.G.Group.fields _ _ _ (omega arith) refl c.loop-k.invariant.1))

pub returns : goal.returns
returns g c = done g.G.Group.fields _ _ (omega arith) c.loop-k.invariant.1
