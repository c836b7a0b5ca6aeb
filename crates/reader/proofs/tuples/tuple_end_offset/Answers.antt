use Rattle.std.proofs.Common.{sym, ◌∙◌, arith}
use Rattle.wire.proofs.Given.{stopped}
use Rattle.message.specs.Layout.{column_count}
use Rattle.reader.proofs.Offset.{offset_long, offset_from, offset_none, counted}
use Rattle.reader.proofs.tuples.tuple_end_offset.Goals as goal

pub returns-then-s-gt-LARGEST : goal.returns-then-s-gt-LARGEST
returns-then-s-gt-LARGEST c = offset_long _ _ c.if-s-gt-LARGEST.true

pub returns-in-Err : goal.returns-in-Err
returns-in-Err c =
    offset_none _ _ c.if-s-gt-LARGEST.false (stopped (column_count c.args.s.now _) (sym c.column_count.ensures.value ∙ c.in-Err.is))

pub overflow_add-start : goal.overflow_add-start
overflow_add-start c = omega (arith, (counted c.args.s.now c.args.start (sym c.column_count.ensures.value ∙ c.in-Ok.is)).2)

pub returns-in-Ok : goal.returns-in-Ok
returns-in-Ok c =
    let k = counted c.args.s.now c.args.start (sym c.column_count.ensures.value ∙ c.in-Ok.is) in
    c.columns_fast.ensures ∙ rw k.0 (offset_from _ _ c.if-s-gt-LARGEST.false k.1)
