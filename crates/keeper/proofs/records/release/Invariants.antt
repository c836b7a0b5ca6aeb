use Prim.Native.Nat.{◌-◌}
use mathlib.Core.Bool.{not}
use Rattle.std.specs.Prelude.{None}
use lib.ListN.{take}
use Rattle.keeper.specs.Records.{pieces_in, chosen}
use Rattle.keeper.proofs.Loops.{Copying, Packing}
use Rattle.keeper.proofs.records.release.Given as goal

-- `keeper::records::release` meets its contract. Assumes nothing.
abbrev pub invariant-loop-from : goal.invariant-loop-from
invariant-loop-from l = Copying (chosen l.xid None) l.initial.buffer l.end (pieces_in (chosen l.xid None) (take l.held l.initial.buffer)) l.initial.out l.out l.n l.from × Packing (λ r. not (chosen l.xid None r)) l.initial.buffer l.end (pieces_in (λ r. not (chosen l.xid None r)) (take l.held l.initial.buffer)) l.buffer l.to l.from

abbrev pub decreases-loop-from : goal.decreases-loop-from
decreases-loop-from l = l.end - l.from
