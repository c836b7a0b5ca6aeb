use Rattle.std.proofs.Common.{take}
use Rattle.catalog.specs.Table.{row_list, not_held_by}
use Rattle.catalog.proofs.Over.{Keeping}
use Rattle.catalog.proofs.announcements.Announcements.keep_others.Given as goal

abbrev pub invariant-loop-i : goal.invariant-loop-i
invariant-loop-i l = let r = l.fn.range in Keeping (take r.from (row_list l.fn.self)) r.from (not_held_by l.t) (row_list l.fn.self) (row_list l.self) l.kept l.i
