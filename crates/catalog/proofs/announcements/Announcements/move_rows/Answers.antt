use Rattle.std.proofs.Common.{arith}
use Rattle.catalog.specs.Table.{row_list}
use Rattle.catalog.proofs.Columns.{row_list_length}
use Rattle.catalog.proofs.Over.{move_start, move_turn}
use Rattle.catalog.proofs.announcements.Announcements.move_rows.Goals as goal

pub loop-k-init : goal.loop-k-init
loop-k-init c = let a = c.args in move_start a.to a.from (row_list a.self.now) c.requires.ordered (omega (arith, row_list_length a.self.now))

pub loop-k-preserved : goal.loop-k-preserved
loop-k-preserved c = let a = c.args in let l = c.loop-k in
    move_turn a.to a.from (row_list a.self.now) c.requires.ordered l.k _ _ (omega (arith, row_list_length a.self.now)) l.invariant c.move_row.ensures (omega arith) (omega arith)
