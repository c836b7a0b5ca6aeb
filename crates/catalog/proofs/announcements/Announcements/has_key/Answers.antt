use Rattle.std.proofs.Common.{arith}
use Rattle.catalog.proofs.Ranges.{has_here}
use Rattle.catalog.proofs.announcements.Announcements.has_key.Goals as goal

pub returns : goal.returns
returns c = let a = c.args in let r = a.range in has_here a.self.now r.from r.size (omega arith) a.key _ c.search-at.ensures _ c.is_at.ensures
