use mathlib.Core.Path.{sym, ◌∙◌}
use Rattle.copying.proofs.Copies.{laid-fits, laid_not}
use Rattle.copying.proofs.lay_part.Goals as goal

pub returns-then-tail-part : goal.returns-then-tail-part
returns-then-tail-part c =
    let a = c.args in
    sym (laid_not a.tail.now a.part.now c.if-tail-part.true)

pub returns-then-part-lt8 : goal.returns-then-part-lt8
returns-then-part-lt8 c =
    let a = c.args in
    c.lay_bytes.ensures ∙ sym (laid-fits a.tail.now a.part.now c.if-tail-part.false)

pub returns-then-part-lt32 : goal.returns-then-part-lt32
returns-then-part-lt32 c =
    let a = c.args in
    c.lay_blocks.ensures ∙ sym (laid-fits a.tail.now a.part.now c.if-tail-part.false)

pub returns-else-part-lt32 : goal.returns-else-part-lt32
returns-else-part-lt32 c =
    let a = c.args in
    c.lay_blocks-else-part-lt32.ensures ∙ sym (laid-fits a.tail.now a.part.now c.if-tail-part.false)
