use Rattle.std.proofs.Common.{sym, ◌∙◌}
use Rattle.reader.proofs.Offset.{tuple_there}
use Rattle.reader.proofs.tuples.tuple_after.Goals as goal

pub returns-in-Some : goal.returns-in-Some
returns-in-Some c = sym (tuple_there _ _ (sym c.in-Some.is ∙ c.tuple_end_offset.ensures))
