use Rattle.std.proofs.Common.{get_or}
use Rattle.catalog.proofs.Seek.{seek_four}
use Rattle.catalog.proofs.search.four_looks.Goals as goal

pub returns : goal.returns
returns c = let a = c.args in seek_four (λ i. get_or a.keys.now i 0) a.key a.base a.size _ _ _ _ c.look-b1.ensures.place c.look-b2.ensures.place c.look-b3.ensures.place c.look.ensures.place
