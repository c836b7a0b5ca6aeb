use Rattle.std.proofs.Common.{arith}
use Rattle.catalog.proofs.Ranges.{place_most, put_there, put_between, put_nowhere}
use Rattle.catalog.proofs.announcements.Announcements.put_row.Goals as goal

pub returns-then-is_at : goal.returns-then-is_at
returns-then-is_at c = let a = c.args in let r = a.range in
    rw c.store.ensures (put_there a.self.now r.from r.size r.behind (omega arith) (omega arith) a.row _ c.search-at.ensures _ c.is_at.ensures c.if-is_at.true)

pub returns-then-n-lt-ROWS : goal.returns-then-n-lt-ROWS
returns-then-n-lt-ROWS c = let a = c.args in let r = a.range in
    rw c.insert.ensures
    (put_between a.self.now r.from r.size r.behind (omega arith) (omega arith) a.row _ c.search-at.ensures _ c.is_at.ensures c.if-is_at.false _ c.end-n.ensures c.if-n-lt-ROWS.true)

pub returns : goal.returns
returns c = let a = c.args in let r = a.range in
    put_nowhere a.self.now r.from r.size r.behind (omega arith) (omega arith) a.row _ c.search-at.ensures _ c.is_at.ensures c.if-is_at.false (omega arith)

pub insert-requires-clause-ordered : goal.insert-requires-clause-ordered
insert-requires-clause-ordered c = let a = c.args in let r = a.range in omega (arith, place_most a.self.now r.from r.size (omega arith) a.row.key _ c.search-at.ensures)
