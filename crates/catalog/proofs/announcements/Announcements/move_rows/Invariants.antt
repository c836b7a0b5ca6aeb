use Rattle.catalog.specs.Table.{row_list}
use Rattle.catalog.proofs.Over.{Moved}
use Rattle.catalog.proofs.announcements.Announcements.move_rows.Given as goal

abbrev pub invariant-loop-k : goal.invariant-loop-k
invariant-loop-k l = Moved l.to l.from (row_list l.fn.self) (row_list l.self) l.k
