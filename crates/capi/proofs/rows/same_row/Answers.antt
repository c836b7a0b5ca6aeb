use mathlib.Core.Path.{refl}
use native.Mathlib.Omega.{arith}
use Rattle.capi.proofs.Sameness.{differs, agrees, all_same}
use Rattle.capi.proofs.rows.same_row.Goals as goal

pub loop-k-init : goal.loop-k-init
loop-k-init c = refl

pub loop-k-preserved-then-a-k : goal.loop-k-preserved-then-a-k
loop-k-preserved-then-a-k c =
    let s = c.args in
    differs c.loop-k.same c.loop-k.k s.a.now s.b.now c.loop-k.invariant c.loop-k-test.true c.if-a-k.true

pub loop-k-preserved : goal.loop-k-preserved
loop-k-preserved c =
    let s = c.args in
    agrees c.loop-k.same c.loop-k.k s.a.now s.b.now c.loop-k.invariant c.loop-k-test.true c.if-a-k.false

pub returns : goal.returns
returns c =
    let s = c.args in
    all_same c.loop-k.same c.loop-k.k s.a.now s.b.now c.loop-k.invariant (omega arith)
