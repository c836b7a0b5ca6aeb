use Rattle.std.proofs.Common.{◌≡◌, ◌∙◌, rules}
use mir.Syntax.{w32}
use mir.Val.{SFits}
use mir.Facts.{to_z-of_z}
use Rattle.std.specs.Prelude.{Ok, Some, None}
use Rattle.capi.proofs.Steps.{relation-shown}
use Rattle.capi.proofs.stepping.relation_step.Goals as goal

pub returns-in-Ok-Some : goal.returns-in-Ok-Some
returns-in-Ok-Some c =
    let e : c.item_at-step.result.item ≡ Ok (Some c.in-Ok-Some.column) = search rules in
    let s = relation-shown c.args.bytes.now c.args.position.now _ _ (rw c.position_in.ensures at c.item_at-step.ensures) e in
    let k : SFits w32 c.in-Ok-Some.column.modifier = search rules in
    record { out_after = rw (c.cast_unsigned-bits.ensures, to_z-of_z k) s.0; position_after = s.1 }

pub returns-in-Ok-None : goal.returns-in-Ok-None
returns-in-Ok-None c =
    let e : c.item_at-step.result.item ≡ Ok None = search rules in
    let s = relation-shown c.args.bytes.now c.args.position.now _ _ (rw c.position_in.ensures at c.item_at-step.ensures) e in
    record { out_after = c.over.ensures ∙ s.0; position_after = s.1 }

pub returns-in-Err : goal.returns-in-Err
returns-in-Err c =
    let s = relation-shown c.args.bytes.now c.args.position.now _ _ (rw c.position_in.ensures at c.item_at-step.ensures) c.in-Err.is in
    record { out_after = c.refused.ensures ∙ s.0; position_after = s.1 }
