use Rattle.std.proofs.Common.{◌≡◌, ◌-◌}
use Rattle.message.specs.Layout.{groups_end}
use Rattle.reader.proofs.passing.groups_end.Given as goal

abbrev pub invariant-loop-k : goal.invariant-loop-k
invariant-loop-k g l = (l.r.bytes ≡ l.initial.r.bytes) × (groups_end g.G.Group.fields l.s (l.n - l.k) l.r.next ≡ groups_end g.G.Group.fields l.s l.n l.fn.c)
