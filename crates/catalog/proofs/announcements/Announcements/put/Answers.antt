use Rattle.std.proofs.Common.{arith}
use Rattle.catalog.specs.Table.{row, row_list}
use Rattle.catalog.proofs.Columns.{row_list_length}
use Rattle.catalog.proofs.Releases.{put-fits}
use Rattle.catalog.proofs.Tables.{put_is}
use Rattle.catalog.proofs.announcements.Announcements.put.Goals as goal

pub overflow_cast-result : goal.overflow_cast-result
overflow_cast-result c = let a = c.args in let r = c.clamped.result in let d = a.said in let n = row_list_length a.self.now in
    omega (arith, put-fits r.from r.size r.behind (row_list a.self.now) (omega arith) (row c.key_of.result d.tag d.identity d.columns) (omega arith), c.put_row-after.ensures.number)

pub returns : goal.returns
returns c = let a = c.args in let r = c.clamped.result in let e = c.clamped.ensures in
    put_is a.rows a.self.now (omega arith) r e.from e.size e.behind _ _ c.sized.ensures a.holder a.oid _ a.said c.key_of.ensures c.put_row-after.ensures
