use Rattle.std.proofs.Common.{arith, take}
use Rattle.catalog.specs.Table.{row_list, held_by, not_held_by}
use Rattle.catalog.proofs.Columns.{row_list_length}
use Rattle.catalog.proofs.Over.{keep-start, keep-step, kept_most, keep_end}
use Rattle.catalog.proofs.announcements.Announcements.keep_others.Goals as goal

pub loop-i-init : goal.loop-i-init
loop-i-init c = let a = c.args in let r = a.range in keep-start (not_held_by a.t) r.from r.from (row_list a.self.now) (omega arith) (omega (arith, row_list_length a.self.now))

pub keep-kept-requires-clause-ordered : goal.keep-kept-requires-clause-ordered
keep-kept-requires-clause-ordered c = let a = c.args in let r = a.range in let l = c.loop-i in
    kept_most (take r.from (row_list a.self.now)) r.from (not_held_by a.t) (row_list a.self.now) (row_list l.self) l.kept l.i l.invariant (omega (arith, row_list_length a.self.now))

pub loop-i-preserved : goal.loop-i-preserved
loop-i-preserved c = let a = c.args in let r = a.range in let l = c.loop-i in
    keep-step (take r.from (row_list a.self.now)) r.from (held_by a.t) (row_list a.self.now) (row_list l.self) l.kept l.i l.invariant (omega (arith, row_list_length a.self.now)) _ _
    c.keep-kept.ensures.next c.keep-kept.ensures.rows

pub returns : goal.returns
returns c = let a = c.args in let r = a.range in let l = c.loop-i in
    let k = keep_end r.from r.from r.size (not_held_by a.t) (row_list a.self.now) (row_list l.self) l.kept l.i l.invariant (omega arith) (omega (arith, row_list_length a.self.now)) in
    record { end = k.0; rows = k.1 }
