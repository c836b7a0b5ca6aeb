use Rattle.std.proofs.Common.{◌≡◌, ◌∙◌, rules}
use Rattle.std.specs.Prelude.{Ok, Some, None}
use Rattle.capi.proofs.Steps.{oid-shown}
use Rattle.capi.proofs.stepping.oid_step.Goals as goal

pub returns-in-Ok-Some : goal.returns-in-Ok-Some
returns-in-Ok-Some c =
    let e : c.item_at-step.result.item ≡ Ok (Some c.in-Ok-Some.relation) = search rules in
    let s = oid-shown c.args.bytes.now c.args.position.now _ _ (rw c.position_in.ensures at c.item_at-step.ensures) e in
    record { out_after = s.0; position_after = s.1 }

pub returns-in-Ok-None : goal.returns-in-Ok-None
returns-in-Ok-None c =
    let e : c.item_at-step.result.item ≡ Ok None = search rules in
    let s = oid-shown c.args.bytes.now c.args.position.now _ _ (rw c.position_in.ensures at c.item_at-step.ensures) e in
    record { out_after = c.over.ensures ∙ s.0; position_after = s.1 }

pub returns-in-Err : goal.returns-in-Err
returns-in-Err c =
    let s = oid-shown c.args.bytes.now c.args.position.now _ _ (rw c.position_in.ensures at c.item_at-step.ensures) c.in-Err.is in
    record { out_after = c.refused.ensures ∙ s.0; position_after = s.1 }
