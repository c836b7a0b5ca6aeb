use Rattle.wire.proofs.Given.{number_or}
use Rattle.columns.specs.Starts.{tuple_position}
use Rattle.columns.proofs.starts.tuple_position.Goals as goal

pub returns-in-Some : goal.returns-in-Some
unfolding tuple_position
returns-in-Some c =
    rw (c.in-Some.is, c.offset.ensures, c.column_count.ensures.stands_at, c.unwrap_or-left.ensures, c.column_count.ensures.value, number_or)
