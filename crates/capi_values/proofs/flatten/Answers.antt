use mathlib.Core.Path.{sym, ap, ◌∙◌}
use Rattle.values.specs.declared.ValueKind.{ValueKind}
use Rattle.values.specs.declared.TypeRow.{TypeRow}
use Rattle.values.specs.Types.{row_of}
use Rattle.capi_values.proofs.Flatness.{flattened}
use Rattle.capi_values.proofs.flatten.Goals as goal

pub returns-in-Number : goal.returns-in-Number
returns-in-Number c =
    let x = c.args.value in
    flattened x (sym c.in-Number.is ∙ c.bits_of.ensures) (ap (λ (r : TypeRow). r.oid) c.row_of-oid.ensures ∙ ap (λ (k : ValueKind). (row_of k).oid) c.kind_of.ensures)

pub returns-in-Part : goal.returns-in-Part
returns-in-Part c =
    let x = c.args.value in
    flattened x (sym c.in-Part.is ∙ c.bits_of.ensures) (ap (λ (r : TypeRow). r.oid) c.row_of-oid.ensures ∙ ap (λ (k : ValueKind). (row_of k).oid) c.kind_of.ensures)
