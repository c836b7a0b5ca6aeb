use Rattle.std.proofs.Common.{arith}
use Rattle.catalog.proofs.StreamLaws.{swap_set, swap_none}
use Rattle.catalog.proofs.streams.Streams.replace.Goals as goal

pub returns-in-Some : goal.returns-in-Some
returns-in-Some c = let a = c.args in swap_set a.self.now a.a _ c.find.ensures (omega arith) (omega arith) a.b _ c.in-Some.is

pub returns-in_default : goal.returns-in_default
returns-in_default c = let a = c.args in swap_none a.self.now a.a _ c.find.ensures (omega arith) (omega arith) a.b c.in_default.is
