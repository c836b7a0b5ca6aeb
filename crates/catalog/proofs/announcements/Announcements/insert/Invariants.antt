use Rattle.catalog.specs.Table.{row_list}
use Rattle.catalog.proofs.Over.{Shifting}
use Rattle.catalog.proofs.announcements.Announcements.insert.Given as goal

abbrev pub invariant-loop-i : goal.invariant-loop-i
invariant-loop-i l = Shifting l.at l.fn.row (row_list l.fn.self) (row_list l.self) l.held l.i
