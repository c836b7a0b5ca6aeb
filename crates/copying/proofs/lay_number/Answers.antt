use mathlib.Core.Path.{sym, ◌∙◌}
use native.Mathlib.Omega.{arith}
use Rattle.message.specs.Encode.{digits}
use Rattle.message.proofs.Judged.{length_digits}
use Rattle.copying.proofs.Copies.{laid-fits, laid_not}
use Rattle.copying.proofs.lay_number.Goals as goal

pub returns-then-width-tail : goal.returns-then-width-tail
returns-then-width-tail c =
    let a = c.args in
    let size = length_digits a.width a.value in
    c.lay_digits.ensures ∙ sym (laid-fits a.tail.now (digits a.width a.value) (omega arith))

pub returns-else-width-tail : goal.returns-else-width-tail
returns-else-width-tail c =
    let a = c.args in
    let size = length_digits a.width a.value in
    sym (laid_not a.tail.now (digits a.width a.value) (omega arith))
