use Prim.Native.Nat.{◌≤◌}
use native.Mathlib.Omega.{arith}
use mathlib.Core.Path.{refl, ◌∙◌}
use borrow.Author.Tests.{ne_eqb}
use Rattle.capi.specs.Stepping.{step_numbers, moved_on}
use Rattle.capi.proofs.Steps.{tuple_either}
use Rattle.capi.proofs.stepping.kq_column_step.Goals as goal

pub returns-in-2 : goal.returns-in-2
returns-in-2 c = rw c.in-2.is c.relation_step.ensures

pub returns-in-3 : goal.returns-in-3
returns-in-3 c = rw c.in-3.is c.oid_step.ensures

pub returns-in-0 : goal.returns-in-0
returns-in-0 c =
    let e = tuple_either _ _ _ c.in-0.if-section-lt2-own.true in
    record { out_after = c.tuple_step.ensures.out_after ∙ e.0; position_after = c.tuple_step.ensures.position_after ∙ e.1 }

pub returns-in_default : goal.returns-in_default
unfolding step_numbers moved_on
returns-in_default c =
    let n = c.args.section in
    let h : 2 ≤ n = c.in_default.if-section-lt2-own.false in
    let r = c.in_default.in_default-own.rest in
    rw (ne_eqb n 0 (λ e. omega (arith, e, h)), ne_eqb n 1 (λ e. omega (arith, e, h)), ne_eqb n 2 r.0.1, ne_eqb n 3 r.1) (record { out_after = c.refused.ensures; position_after = refl })
