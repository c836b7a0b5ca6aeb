use mathlib.Core.List.{[], ◌∷◌}
use Rattle.message.specs.Encode.{from_to}
use Rattle.writer.proofs.Stores.{lays_both}
use Rattle.writer.proofs.laying.Pen.image.Goals as goal

pub returns-clause-laid : goal.returns-clause-laid
returns-clause-laid c =
    lays_both (c.args.letter ∷ []) (from_to c.args.source.now c.args.start c.args.end) c.byte.ensures.laid c.section.ensures.laid
