use Rattle.std.proofs.Common.{arith}
use Rattle.catalog.specs.Table.{row_list}
use Rattle.catalog.proofs.Columns.{row_list_length}
use Rattle.catalog.proofs.Releases.{release-fits}
use Rattle.catalog.proofs.Tables.{release-is}
use Rattle.catalog.proofs.announcements.Announcements.release.Goals as goal

pub overflow_cast-result : goal.overflow_cast-result
overflow_cast-result c = let a = c.args in let r = c.clamped.result in let n = row_list_length a.self.now in
    omega (arith, release-fits r.from r.size r.behind (row_list a.self.now) (omega arith) a.holder (omega arith), c.release_rows-after.ensures.number)

pub returns : goal.returns
returns c = let a = c.args in let r = c.clamped.result in let e = c.clamped.ensures in
    release-is a.rows a.self.now (omega arith) r e.from e.size e.behind _ _ c.sized.ensures a.holder c.release_rows-after.ensures
