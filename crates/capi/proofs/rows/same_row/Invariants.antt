use mathlib.Core.Bool.{◌&&◌}
use mathlib.Core.Path.{◌≡◌}
use Rattle.capi.specs.Flat.{same}
use Rattle.capi.proofs.rows.same_row.Given as goal

abbrev pub invariant-loop-k : goal.invariant-loop-k
invariant-loop-k l = l.same && same l.k l.a l.b ≡ same 16 l.a l.b
