use Prim.Native.Nat.{◌-◌}
use mathlib.Core.Bool.{not}
use lib.ListN.{take}
use Rattle.keeper.specs.Records.{pieces_in, chosen}
use Rattle.keeper.proofs.Loops.{Packing}
use Rattle.keeper.proofs.records.remove.Given as goal

-- `keeper::records::remove` meets its contract. Assumes nothing.
abbrev pub invariant-loop-from : goal.invariant-loop-from
invariant-loop-from l = Packing (λ r. not (chosen l.xid l.under r)) l.initial.buffer l.end (pieces_in (λ r. not (chosen l.xid l.under r)) (take l.held l.initial.buffer)) l.buffer l.to l.from

abbrev pub decreases-loop-from : goal.decreases-loop-from
decreases-loop-from l = l.end - l.from
