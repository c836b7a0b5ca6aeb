use Rattle.values.proofs.Typed.{listed-one}
use Rattle.capi_values.proofs.Flatness.{raw_lacking, raw_there, number_big, number-second, number_there}
use Rattle.capi_values.proofs.write_flat.Goals as goal

pub returns-then-oid-ne0 : goal.returns-then-oid-ne0
returns-then-oid-ne0 c =
    raw_lacking c.args.value.now c.args.source.now c.args.out.now c.kind_in-kind.ensures c.in-Raw.is c.if-oid-ne0.true c.no_value.ensures

pub returns-then-row-first : goal.returns-then-row-first
returns-then-row-first c =
    number_big c.args.value.now c.args.source.now c.args.out.now c.kind_in-kind.ensures (listed-one c.kind_in-kind.result c.in_default.not-Raw) c.row_of-row.ensures c.if-row-first.true c.no_value-then-row-first.ensures

pub returns-then-second-ne0 : goal.returns-then-second-ne0
returns-then-second-ne0 c =
    number-second c.args.value.now c.args.source.now c.args.out.now c.kind_in-kind.ensures (listed-one c.kind_in-kind.result c.in_default.not-Raw) c.row_of-row.ensures c.if-row-first.false c.if-second-ne0.true c.no_value-then-second-ne0.ensures

pub returns-else-oid-ne0 : goal.returns-else-oid-ne0
returns-else-oid-ne0 c =
    raw_there c.args.value.now c.args.source.now c.args.out.now c.kind_in-kind.ensures c.in-Raw.is c.if-oid-ne0.false c.write_bits.ensures

pub returns-else-second-ne0 : goal.returns-else-second-ne0
returns-else-second-ne0 c =
    number_there c.args.value.now c.args.source.now c.args.out.now c.kind_in-kind.ensures (listed-one c.kind_in-kind.result c.in_default.not-Raw) c.row_of-row.ensures c.if-row-first.false c.if-second-ne0.false c.write_bits-in_default.ensures
