use native.Mathlib.Omega.{arith}
use mathlib.Core.Path.{refl, ap}
use mathlib.Core.Bool.{not}
use Rattle.std.specs.Prelude.{None}
use Rattle.keeper.specs.Records.{chosen}
use Rattle.keeper.proofs.Loops.{Turn, copy_start, pack_start, copy_done, pack_done, goes, copy-laid, pack_pass, copy_skip, pack_skip, turn_ahead}
use Rattle.keeper.proofs.records.release.Goals as goal
use Rattle.keeper.proofs.records.release.Goals.{After-header-r}

-- the piece of a turn
there : (c : After-header-r) → Turn c.args.buffer.now c.end_of-end.result c.loop-from.from c.header-r.result
there c = turn_ahead c.loop-from.invariant.1 c.loop-from-test.true c.header-r.ensures

pub loop-from-init : goal.loop-from-init
loop-from-init c =
    let a = c.args in
    let l = a.buffer.now in
    let end = c.end_of-end.result in
    let e = c.end_of-end.ensures in
    (copy_start (chosen a.xid None) l end a.held e.0 (e.1 l refl) a.out.now, pack_start (λ r. not (chosen a.xid None r)) l end a.held e.0 (e.1 l refl))

pub slice_bounds-header-count : goal.slice_bounds-header-count
slice_bounds-header-count c = omega arith

pub overflow_add-stop : goal.overflow_add-stop
overflow_add-stop c = omega (arith, goes (there (goal.at.overflow_add-stop c).After-header-r))

pub slice_bounds-lay_part-count : goal.slice_bounds-lay_part-count
slice_bounds-lay_part-count c = omega (arith, goes (there (goal.at.slice_bounds-lay_part-count c).After-header-r))

pub slice_bounds-lay_part-count-then-is_chosen : goal.slice_bounds-lay_part-count-then-is_chosen
slice_bounds-lay_part-count-then-is_chosen c = omega (arith, goes (there (goal.at.slice_bounds-lay_part-count-then-is_chosen c).After-header-r))

pub slice_bounds-lay_part-end-then-is_chosen : goal.slice_bounds-lay_part-end-then-is_chosen
slice_bounds-lay_part-end-then-is_chosen c = omega (arith, goes (there (goal.at.slice_bounds-lay_part-end-then-is_chosen c).After-header-r))

pub overflow_add-n : goal.overflow_add-n
overflow_add-n c = omega (arith, goes (there (goal.at.overflow_add-n c).After-header-r))

pub pack-to-requires : goal.pack-to-requires
pack-to-requires c = omega (arith, goes (there (goal.at.pack-to-requires c).After-header-r))

pub loop-from-smaller-then-is_chosen : goal.loop-from-smaller-then-is_chosen
loop-from-smaller-then-is_chosen c = omega (arith, goes (there (goal.at.loop-from-smaller-then-is_chosen c).After-header-r))

pub loop-from-preserved-then-is_chosen : goal.loop-from-preserved-then-is_chosen
loop-from-preserved-then-is_chosen c =
    let t = there (goal.at.loop-from-preserved-then-is_chosen c).After-header-r in
    let i = c.loop-from.invariant in
    let v = c.is_chosen.ensures in
    let e = c.if-is_chosen.true in
    (copy-laid t v e i.0 c.requires i.1 c.lay_part.ensures, pack_skip t (ap not v) (ap not e) i.1)

pub loop-from-smaller : goal.loop-from-smaller
loop-from-smaller c = omega (arith, goes (there (goal.at.loop-from-smaller c).After-header-r))

pub loop-from-preserved : goal.loop-from-preserved
loop-from-preserved c =
    let t = there (goal.at.loop-from-preserved c).After-header-r in
    let i = c.loop-from.invariant in
    let v = c.is_chosen.ensures in
    let e = c.if-is_chosen.false in
    (copy_skip t v e i.0, pack_pass t (ap not v) (ap not e) i.1 c.pack-to.ensures)

pub shape_of-buffer : goal.shape_of-buffer
shape_of-buffer c = c.loop-from.invariant.1.copy.long

pub shape_of-out : goal.shape_of-out
shape_of-out c = c.loop-from.invariant.0.long

pub returns : goal.returns
returns c =
    let i = c.loop-from.invariant in
    (copy_done c.loop-from-test.false i.0 c.requires, pack_done c.loop-from-test.false i.1)
