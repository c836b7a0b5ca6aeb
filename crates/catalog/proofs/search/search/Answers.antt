use Rattle.std.proofs.Common.{get_or, ◌∙◌}
use Rattle.catalog.proofs.Seek.{seek_few, seek_five}
use Rattle.catalog.proofs.search.search.Goals as goal

pub returns-then-size-lt16 : goal.returns-then-size-lt16
returns-then-size-lt16 c = let a = c.args in c.four_looks.ensures ∙ seek_few (λ i. get_or a.keys.now i 0) a.key a.from a.size c.if-size-lt16.true

pub returns : goal.returns
returns c = let a = c.args in c.four_looks-2.ensures ∙ seek_five (λ i. get_or a.keys.now i 0) a.key a.from a.size _ _ _ _ _ c.look-b1.ensures.place c.look-b2.ensures.place c.look-b3.ensures.place c.look-b4.ensures.place c.look-b5.ensures.place
