use Rattle.std.proofs.Common.{◌≡◌, refl, arith, rules}
use Rattle.std.specs.Prelude.{Ok, None}
use Rattle.columns.specs.Parts.{empty_span}
use Rattle.columns.proofs.Parts.{lacking}
use Rattle.columns.proofs.readers.column_part.Goals as goal

pub returns-in-Ok-None : goal.returns-in-Ok-None
returns-in-Ok-None c =
    let w = lacking c.args.message.now empty_span (λ l. (refl, refl)) in
    let e : c.args.column ≡ Ok None = search rules in
    rw e (record { bytes = rw w; block = refl; offset = rw w (omega arith) })

pub returns-in-Err : goal.returns-in-Err
returns-in-Err c =
    let w = lacking c.args.message.now empty_span (λ l. (refl, refl)) in
    rw c.in-Err.is (record { bytes = rw w; block = refl; offset = rw w (omega arith) })
