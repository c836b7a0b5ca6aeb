use mathlib.Core.List.{[], ◌∷◌}
use Rattle.message.specs.Encode.{cut}
use Rattle.writer.proofs.Stores.{lays_both}
use Rattle.writer.proofs.laying.Pen.text.Goals as goal

pub returns-clause-laid : goal.returns-clause-laid
returns-clause-laid c =
    lays_both (cut c.args.source.now c.args.text.start c.args.text.length) (0 ∷ []) c.part.ensures.laid c.byte.ensures.laid
