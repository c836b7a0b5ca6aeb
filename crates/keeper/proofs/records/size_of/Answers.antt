use native.Mathlib.Omega.{arith}
use mathlib.Core.Path.{refl}
use Rattle.std.specs.Prelude.{None}
use Rattle.keeper.specs.Records.{chosen}
use Rattle.keeper.proofs.Loops.{Turn, count-start, count_done, goes, count_pass, count_skip, turn}
use Rattle.keeper.proofs.records.size_of.Goals as goal
use Rattle.keeper.proofs.records.size_of.Goals.{After-header-r}

-- the piece of a turn
there : (c : After-header-r) → Turn c.args.buffer.now c.end_of-end.result c.loop-at.at c.header-r.result
there c = turn c.loop-at.invariant c.loop-at-test.true c.header-r.ensures

pub loop-at-init : goal.loop-at-init
loop-at-init c =
    let a = c.args in
    let e = c.end_of-end.ensures in
    count-start (chosen a.xid None) a.buffer.now c.end_of-end.result a.held e.0 (e.1 a.buffer.now refl)

pub overflow_add-stop : goal.overflow_add-stop
overflow_add-stop c = omega (arith, goes (there (goal.at.overflow_add-stop c).After-header-r))

pub overflow_add-n : goal.overflow_add-n
overflow_add-n c = omega (arith, goes (there (goal.at.overflow_add-n c).After-header-r))

pub loop-at-smaller-then-is_chosen : goal.loop-at-smaller-then-is_chosen
loop-at-smaller-then-is_chosen c = omega (arith, goes (there (goal.at.loop-at-smaller-then-is_chosen c).After-header-r))

pub loop-at-preserved-then-is_chosen : goal.loop-at-preserved-then-is_chosen
loop-at-preserved-then-is_chosen c = count_pass (there (goal.at.loop-at-preserved-then-is_chosen c).After-header-r) c.is_chosen.ensures c.if-is_chosen.true c.loop-at.invariant

pub loop-at-smaller : goal.loop-at-smaller
loop-at-smaller c = omega (arith, goes (there (goal.at.loop-at-smaller c).After-header-r))

pub loop-at-preserved : goal.loop-at-preserved
loop-at-preserved c = count_skip (there (goal.at.loop-at-preserved c).After-header-r) c.is_chosen.ensures c.if-is_chosen.false c.loop-at.invariant

pub returns : goal.returns
returns c = count_done c.loop-at-test.false c.loop-at.invariant
