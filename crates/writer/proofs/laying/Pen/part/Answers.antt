use mathlib.Core.Path.{refl}
use Rattle.message.specs.Encode.{cut}
use Rattle.copying.proofs.Copies.{laid_in_tail}
use Rattle.writer.proofs.Stores.{lays}
use Rattle.writer.proofs.laying.Pen.part.Goals as goal

pub returns-clause-laid : goal.returns-clause-laid
returns-clause-laid c =
    let p = c.args.self.now in
    let part = cut c.args.source.now c.args.start c.args.n in
    lays part p _ (laid_in_tail p.out.now p.at part c.requires refl c.lay.ensures.0) (rw c.lay.ensures.1)
