use mathlib.Core.Path.{sym, ◌∙◌}
use native.Mathlib.Omega.{arith}
use Rattle.wire.proofs.Values.{end_short}
use Rattle.reader.proofs.Fast.{column-past, column_bare, column_full, column_other}
use Rattle.reader.proofs.tuples.column_fast.Goals as goal

pub returns-then-s-at : goal.returns-then-s-at
returns-then-s-at c = column-past _ _ c.if-s-at.true

pub overflow_add-value : goal.overflow_add-value
overflow_add-value c = omega (arith, c.requires)

pub returns-in-110 : goal.returns-in-110
returns-in-110 c = column_bare _ _ (omega arith) c.in-110.is

pub returns-then-s-value : goal.returns-then-s-value
returns-then-s-value c =
    let small = c.requires in
    sym (end_short _ _ (omega arith)) ∙ column_full _ _ (omega arith) c.in-116.is (omega (arith, small))

pub returns-else-s-value : goal.returns-else-s-value
returns-else-s-value c =
    let small = c.requires in
    c.value_end.ensures ∙ column_full _ _ (omega arith) c.in-116.is (omega (arith, small))

pub returns-in_default : goal.returns-in_default
returns-in_default c = column_other _ _ (omega arith) c.in_default.in_default-own.rest.0.1 c.in_default.in_default-own.rest.1
