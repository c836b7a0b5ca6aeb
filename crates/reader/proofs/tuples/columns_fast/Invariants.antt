use Rattle.std.proofs.Common.{◌≡◌, ◌-◌, [], ◌∷◌}
use Rattle.std.specs.Prelude.{Ok}
use Rattle.message.specs.Layout.{groups_end, column}
use Rattle.reader.proofs.tuples.columns_fast.Given as goal

abbrev pub invariant-loop-k : goal.invariant-loop-k
invariant-loop-k l = groups_end (column ∷ []) l.s (l.n - l.k) (Ok l.at) ≡ groups_end (column ∷ []) l.s l.n (Ok l.fn.first)
