use Rattle.std.proofs.Common.{arith}
use Rattle.catalog.specs.Table.{row_list, part, not_held_by}
use Rattle.catalog.proofs.Columns.{row_list_length}
use Rattle.catalog.proofs.Ranges.{table-size}
use Rattle.catalog.proofs.Sorted.{keep_most}
use Rattle.catalog.proofs.Tables.{drop-is}
use Rattle.catalog.proofs.announcements.Announcements.drop_holder.Goals as goal

pub overflow_cast-result : goal.overflow_cast-result
overflow_cast-result c = let a = c.args in let r = c.clamped.result in let n = row_list_length a.self.now in
    omega (arith, keep_most (not_held_by a.holder) (part r.from r.size (row_list a.self.now)), table-size r.from r.size r.behind (row_list a.self.now) (omega arith), c.drop_rows-after.ensures.number)

pub returns : goal.returns
returns c = let a = c.args in let r = c.clamped.result in let e = c.clamped.ensures in
    drop-is a.rows a.self.now (omega arith) r e.from e.size e.behind _ _ c.sized.ensures a.holder c.drop_rows-after.ensures
