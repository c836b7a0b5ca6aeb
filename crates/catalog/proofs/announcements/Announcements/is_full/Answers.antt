use Rattle.std.proofs.Common.{arith}
use Rattle.catalog.proofs.Tables.{whole_full}
use Rattle.catalog.proofs.announcements.Announcements.is_full.Goals as goal

pub returns : goal.returns
returns c = let a = c.args in let r = c.clamped.result in let e = c.clamped.ensures in whole_full a.rows a.self.now (omega arith) r e.from e.size e.behind
