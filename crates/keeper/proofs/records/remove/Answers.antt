use native.Mathlib.Omega.{arith}
use mathlib.Core.Path.{refl, ap}
use mathlib.Core.Bool.{not}
use Rattle.keeper.specs.Records.{chosen}
use Rattle.keeper.proofs.Loops.{Turn, pack_start, pack_done, goes, pack_pass, pack_skip, turn_ahead}
use Rattle.keeper.proofs.records.remove.Goals as goal
use Rattle.keeper.proofs.records.remove.Goals.{After-header-r}

-- the piece of a turn
there : (c : After-header-r) → Turn c.args.buffer.now c.end_of-end.result c.loop-from.from c.header-r.result
there c = turn_ahead c.loop-from.invariant c.loop-from-test.true c.header-r.ensures

pub loop-from-init : goal.loop-from-init
loop-from-init c =
    let a = c.args in
    let e = c.end_of-end.ensures in
    pack_start (λ r. not (chosen a.xid a.under r)) a.buffer.now c.end_of-end.result a.held e.0 (e.1 a.buffer.now refl)

pub slice_bounds-header-count : goal.slice_bounds-header-count
slice_bounds-header-count c = omega arith

pub overflow_add-stop : goal.overflow_add-stop
overflow_add-stop c = omega (arith, goes (there (goal.at.overflow_add-stop c).After-header-r))

pub pack-to-requires : goal.pack-to-requires
pack-to-requires c = omega (arith, goes (there (goal.at.pack-to-requires c).After-header-r))

pub loop-from-smaller-then-not-is_chosen : goal.loop-from-smaller-then-not-is_chosen
loop-from-smaller-then-not-is_chosen c = omega (arith, goes (there (goal.at.loop-from-smaller-then-not-is_chosen c).After-header-r))

pub loop-from-preserved-then-not-is_chosen : goal.loop-from-preserved-then-not-is_chosen
loop-from-preserved-then-not-is_chosen c = pack_pass (there (goal.at.loop-from-preserved-then-not-is_chosen c).After-header-r) (ap not c.is_chosen.ensures) (ap not c.if-not-is_chosen.true) c.loop-from.invariant c.pack-to.ensures

pub loop-from-smaller : goal.loop-from-smaller
loop-from-smaller c = omega (arith, goes (there (goal.at.loop-from-smaller c).After-header-r))

pub loop-from-preserved : goal.loop-from-preserved
loop-from-preserved c = pack_skip (there (goal.at.loop-from-preserved c).After-header-r) (ap not c.is_chosen.ensures) (ap not c.if-not-is_chosen.false) c.loop-from.invariant

pub shape_of-buffer : goal.shape_of-buffer
shape_of-buffer c = c.loop-from.invariant.copy.long

pub returns : goal.returns
returns c = pack_done c.loop-from-test.false c.loop-from.invariant
