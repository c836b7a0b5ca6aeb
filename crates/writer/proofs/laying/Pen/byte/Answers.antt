use mathlib.Core.List.{[], ◌∷◌}
use mathlib.Core.Path.{refl}
use Rattle.writer.proofs.Stores.{lays}
use Rattle.writer.proofs.laying.Pen.byte.Goals as goal

pub returns-clause-laid : goal.returns-clause-laid
returns-clause-laid c = lays (c.args.b ∷ []) c.args.self.now _ refl refl
