use Rattle.std.proofs.Common.{arith}
use Rattle.catalog.specs.Table.{row_list}
use Rattle.catalog.proofs.Columns.{row_list_length}
use Rattle.catalog.proofs.Over.{shift_start, shift_turn, shift_end}
use Rattle.catalog.proofs.announcements.Announcements.insert.Goals as goal

pub loop-i-init : goal.loop-i-init
loop-i-init c = let a = c.args in shift_start a.at a.row (row_list a.self.now) (omega (arith, row_list_length a.self.now))

pub loop-i-preserved : goal.loop-i-preserved
loop-i-preserved c = let a = c.args in let l = c.loop-i in
    shift_turn a.at a.row (row_list a.self.now) (row_list l.self) l.held l.i l.invariant (omega (arith, row_list_length a.self.now)) _ _ c.store.ensures c.row_at-next.ensures

pub returns : goal.returns
returns c = let a = c.args in let l = c.loop-i in
    shift_end a.at a.row (row_list a.self.now) (row_list l.self) l.held l.i l.invariant (omega (arith, row_list_length a.self.now)) _ a.n c.store-2.ensures (omega arith)
