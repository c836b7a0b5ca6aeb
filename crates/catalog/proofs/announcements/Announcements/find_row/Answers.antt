use Rattle.std.proofs.Common.{arith}
use Rattle.catalog.proofs.Ranges.{seen_here, seen_none}
use Rattle.catalog.proofs.announcements.Announcements.find_row.Goals as goal

pub returns-then-is_at : goal.returns-then-is_at
returns-then-is_at c = let a = c.args in let r = a.range in
    seen_here a.self.now r.from r.size (omega arith) a.key _ c.search-at.ensures _ c.is_at.ensures c.if-is_at.true

pub returns-else-is_at : goal.returns-else-is_at
returns-else-is_at c = let a = c.args in let r = a.range in
    seen_none a.self.now r.from r.size (omega arith) a.key _ c.search-at.ensures _ c.is_at.ensures c.if-is_at.false
