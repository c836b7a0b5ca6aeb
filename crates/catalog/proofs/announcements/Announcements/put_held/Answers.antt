use Rattle.std.proofs.Common.{arith, sym, ◌∙◌}
use Rattle.catalog.specs.Table.{row_list}
use Rattle.catalog.proofs.Columns.{row_list_length}
use Rattle.catalog.proofs.Ranges.{unchanged}
use Rattle.catalog.proofs.announcements.Announcements.put_held.Goals as goal

pub returns-then-is_held_by : goal.returns-then-is_held_by
returns-then-is_held_by c = rw (sym c.is_held_by.ensures ∙ c.if-is_held_by.true) (rw c.made_common.ensures at c.put_row.ensures)

pub returns : goal.returns
returns c = let a = c.args in let r = a.range in
    rw (sym c.is_held_by.ensures ∙ c.if-is_held_by.false) (unchanged r.from r.size r.behind (row_list a.self.now) (omega (arith, row_list_length a.self.now)))
