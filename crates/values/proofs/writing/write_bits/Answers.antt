use mathlib.Core.Path.{refl}
use native.Mathlib.Omega.{arith}
use Rattle.values.proofs.Stored.{number_full, number-whole, part_lacking, part_full, part-whole}
use Rattle.values.proofs.writing.write_bits.Goals as goal

pub returns-then-out-width : goal.returns-then-out-width
returns-then-out-width c = number_full c.args.bits c.args.source.now c.args.out.now _ _ c.in-Number.is c.if-out-width.true c.refused.ensures

pub returns-then-source-start : goal.returns-then-source-start
returns-then-source-start c = part_lacking c.args.bits c.args.source.now c.args.out.now _ _ c.in-Part.is (omega arith) c.refused-then-source-start.ensures

pub returns-then-source-start-2 : goal.returns-then-source-start-2
returns-then-source-start-2 c = part_lacking c.args.bits c.args.source.now c.args.out.now _ _ c.in-Part.is (omega arith) c.refused-then-source-start-2.ensures

pub returns-then-out-length : goal.returns-then-out-length
returns-then-out-length c = part_full c.args.bits c.args.source.now c.args.out.now _ _ c.in-Part.is (omega arith) c.if-out-length.true c.refused-then-out-length.ensures

pub returns-else-out-width : goal.returns-else-out-width
returns-else-out-width c = number-whole c.args.bits c.args.source.now c.args.out.now _ _ c.in-Number.is c.if-out-width.false c.lay_number.ensures

pub returns-else-out-length : goal.returns-else-out-length
returns-else-out-length c = part-whole c.args.bits c.args.source.now c.args.out.now _ _ c.in-Part.is (omega arith) c.if-out-length.false refl c.lay_part.ensures
