use Rattle.std.proofs.Common.{◌≡◌, refl, rules}
use Rattle.std.specs.Prelude.{Ok, Some, None}
use Rattle.capi_values.proofs.Flatness.{shown}
use Rattle.capi_values.proofs.kq_value_step.Goals as goal

pub returns-in-Ok-Some : goal.returns-in-Ok-Some
returns-in-Ok-Some c =
    let e : c.typed_step-step.result.item ≡ Ok (Some c.in-Ok-Some.x) = search rules in
    shown c.args.bytes.now c.args.position.now c.args.type_oid c.typed_step-step.ensures e refl c.flatten.ensures

pub returns-in-Ok-None : goal.returns-in-Ok-None
returns-in-Ok-None c =
    let e : c.typed_step-step.result.item ≡ Ok None = search rules in
    shown c.args.bytes.now c.args.position.now c.args.type_oid c.typed_step-step.ensures e refl refl

pub returns-in-Err : goal.returns-in-Err
returns-in-Err c =
    shown c.args.bytes.now c.args.position.now c.args.type_oid c.typed_step-step.ensures c.in-Err.is refl refl
