use Rattle.std.proofs.Common.{◌≡◌, sym, ◌∙◌, rules}
use Rattle.std.specs.Prelude.{Err}
use Rattle.wire.proofs.Given.{stopped}
use Rattle.message.specs.Layout.{column_count, tuple_end}
use Rattle.reader.proofs.Stops.{groups_stay}
use Rattle.reader.proofs.tuples.tuple_end.Goals as goal

pub returns-in_err-count : goal.returns-in_err-count
unfolding tuple_end
returns-in_err-count c =
    let why = c.in_err-count.field-0.0 in
    let given : c.from_residual.result ≡ Err why = search rules in
    let e = stopped (column_count c.args.s.now c.args.c) (sym c.column_count.ensures.value ∙ c.in_err-count.was) in
    given ∙ sym (rw e (groups_stay _ _ _ why))
