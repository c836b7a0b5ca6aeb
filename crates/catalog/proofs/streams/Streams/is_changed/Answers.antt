use Rattle.catalog.proofs.StreamLaws.{mark_at, mark_none}
use Rattle.catalog.proofs.Opens.{changed-first}
use Rattle.catalog.proofs.streams.Streams.is_changed.Goals as goal

pub returns-in-Some : goal.returns-in-Some
returns-in-Some c = let a = c.args in rw (changed-first a.self.now a.x) (mark_at a.self.now a.x _ c.find.ensures _ c.in-Some.is)

pub returns-in-None : goal.returns-in-None
returns-in-None c = let a = c.args in rw (changed-first a.self.now a.x) (mark_none a.self.now a.x _ c.find.ensures c.in-None.is)
