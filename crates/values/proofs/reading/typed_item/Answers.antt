use Rattle.std.proofs.Common.{sym, ◌∙◌}
use Rattle.wire.proofs.Given.{went_on}
use Rattle.values.specs.AsRead.{binary_field}
use Rattle.values.proofs.Inside.{inside}
use Rattle.values.proofs.reading.typed_item.Goals as goal

pub typed_value-requires : goal.typed_value-requires
typed_value-requires c =
    let e = rw c.letter.ensures.stands_at at c.value.ensures in
    let w = went_on (binary_field c.args.r.now.bytes.now c.args.r.now.next) (sym e.value ∙ c.in_ok-value.was) in
    rw (e.stands_at, w.2) (inside _ _ w.0 w.1)
