use Rattle.writer.proofs.Stores.{lays_none}
use Rattle.writer.proofs.laying.Pen.old.Goals as goal

pub returns-in-Nothing-clause-laid : goal.returns-in-Nothing-clause-laid
returns-in-Nothing-clause-laid c = rw c.in-Nothing.is (lays_none c.args.self.now)
