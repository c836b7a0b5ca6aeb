use Rattle.std.proofs.Common.{arith}
use Rattle.catalog.proofs.Tables.{whole_has}
use Rattle.catalog.proofs.announcements.Announcements.is_announced.Goals as goal

pub returns : goal.returns
returns c = let a = c.args in let r = c.clamped.result in let e = c.clamped.ensures in
    whole_has a.rows a.self.now (omega arith) r e.from e.size e.behind a.holder a.oid _ _ c.ranges.oid.fits c.key_of.ensures c.has_key.ensures
