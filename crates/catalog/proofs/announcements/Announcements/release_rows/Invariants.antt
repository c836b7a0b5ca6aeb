use Rattle.catalog.specs.Table.{row_list}
use Rattle.catalog.proofs.Releases.{Putting}
use Rattle.catalog.proofs.announcements.Announcements.release_rows.Given as goal

abbrev pub invariant-loop-i : goal.invariant-loop-i
invariant-loop-i l = let r = l.range in Putting r.from r.size r.behind l.t (row_list l.old) (row_list l.self) l.after l.i
