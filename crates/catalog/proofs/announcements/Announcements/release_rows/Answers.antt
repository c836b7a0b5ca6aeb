use Rattle.std.proofs.Common.{arith}
use Rattle.catalog.specs.Table.{row_list}
use Rattle.catalog.proofs.Columns.{row_list_length}
use Rattle.catalog.proofs.Releases.{putting_start, putting_room, putting_turn, putting_end}
use Rattle.catalog.proofs.announcements.Announcements.release_rows.Goals as goal

pub loop-i-init : goal.loop-i-init
loop-i-init c = let a = c.args in let r = a.range in let n = row_list_length a.self.now in
    putting_start r.from r.size r.behind a.t (row_list a.self.now) (omega arith) (omega arith) _ _ c.drop_rows-after.ensures

pub with_size-requires : goal.with_size-requires
with_size-requires c = let a = c.args in let r = a.range in let l = c.loop-i in let n = row_list_length a.self.now in
    putting_room r.from r.size r.behind a.t (row_list a.self.now) (omega arith) (omega arith) (row_list l.self) l.after l.i l.invariant

pub loop-i-preserved : goal.loop-i-preserved
loop-i-preserved c = let a = c.args in let r = a.range in let l = c.loop-i in let n = row_list_length a.self.now in let e = c.with_size.ensures in
    putting_turn r.from r.size r.behind a.t (row_list a.self.now) (omega arith) (omega arith) (row_list l.self) l.after l.i l.invariant (omega arith) _ _
    (rw (e.from, e.size, e.behind, c.row_at.ensures) at c.put_held-after.ensures)

pub returns : goal.returns
returns c = let a = c.args in let r = a.range in let l = c.loop-i in let n = row_list_length a.self.now in
    putting_end r.from r.size r.behind a.t (row_list a.self.now) (omega arith) (omega arith) (row_list l.self) l.after l.i l.invariant (omega arith)
