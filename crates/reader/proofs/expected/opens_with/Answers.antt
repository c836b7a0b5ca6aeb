use mathlib.Core.Bool.{false≢true}
use mathlib.Core.Path.{sym, ◌∙◌}
use borrow.Author.Tests.{eqb-true}
use Rattle.reader.proofs.Top.{by_letter}
use Rattle.reader.proofs.expected.opens_with.Goals as goal

pub returns-then-not-allows : goal.returns-then-not-allows
returns-then-not-allows c e = absurd (false≢true e)

pub returns-then-bytes-gt-LARGEST : goal.returns-then-bytes-gt-LARGEST
returns-then-bytes-gt-LARGEST c e = absurd (false≢true e)

pub returns-then-bytes-eq0 : goal.returns-then-bytes-eq0
returns-then-bytes-eq0 c e = absurd (false≢true e)

pub returns : goal.returns
returns c e k f n =
    by_letter _ _ _ (sym c.allows.ensures ∙ c.if-not-allows.false) c.if-bytes-gt-LARGEST.false c.if-bytes-eq0.false
    k f (eqb-true _ _ e ∙ n)
