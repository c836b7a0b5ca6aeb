use Rattle.std.proofs.Common.{◌≡◌, sym, ◌∙◌, refl, rules}
use Rattle.std.specs.Prelude.{Ok, Err}
use Rattle.wire.specs.Fields.{number_field}
use Rattle.wire.proofs.Fields.{value_le}
use Rattle.wire.proofs.Given.{stopped, went_on}
use Rattle.values.specs.Types.{row_of}
use Rattle.values.proofs.Typed.{value_wide, value_big, value-good}
use Rattle.values.proofs.reading.typed_value.Goals as goal

pub returns-then-not-has_width : goal.returns-then-not-has_width
returns-then-not-has_width c =
    value_wide c.args.message.now c.args.kind c.args.start c.args.count (sym c.has_width.ensures ∙ c.if-not-has_width.true)

pub returns-in_err-number : goal.returns-in_err-number
returns-in_err-number c =
    let given : c.from_residual.result ≡ Err c.in_err-number.field-0.0 = search rules in
    let e = stopped (number_field (row_of c.args.kind).width 0 (row_of c.args.kind).most 17 c.args.message.now (Ok c.args.start)) (sym c.number_of.ensures ∙ c.in_err-number.was) in
    given ∙ value_big c.args.message.now c.args.kind c.args.start c.args.count c.requires (sym c.has_width.ensures ∙ c.if-not-has_width.false) refl e

pub valued-requires : goal.valued-requires
valued-requires c =
    let f = number_field (row_of c.args.kind).width 0 (row_of c.args.kind).most 17 c.args.message.now (Ok c.args.start) in
    rw (went_on f (sym c.number_of.ensures ∙ c.in_ok-number.was)).2 (value_le _ 0 _ 17 _ _)

pub returns : goal.returns
returns c =
    let f = number_field (row_of c.args.kind).width 0 (row_of c.args.kind).most 17 c.args.message.now (Ok c.args.start) in
    let w = went_on f (sym c.number_of.ensures ∙ c.in_ok-number.was) in
    value-good c.args.message.now c.args.kind c.args.start c.args.count c.requires (sym c.has_width.ensures ∙ c.if-not-has_width.false) refl _ w.1 (rw (← w.2) c.valued.ensures)
