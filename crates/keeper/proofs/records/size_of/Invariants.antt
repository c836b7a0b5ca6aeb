use Prim.Native.Nat.{◌-◌}
use Rattle.std.specs.Prelude.{None}
use lib.ListN.{length, take}
use Rattle.keeper.specs.Records.{pieces_in, chosen}
use Rattle.keeper.proofs.Loops.{Counting}
use Rattle.keeper.proofs.records.size_of.Given as goal

-- `keeper::records::size_of` meets its contract. Assumes nothing.
abbrev pub invariant-loop-at : goal.invariant-loop-at
invariant-loop-at l = Counting (chosen l.xid None) l.buffer l.end (length (pieces_in (chosen l.xid None) (take l.held l.buffer))) l.n l.at

abbrev pub decreases-loop-at : goal.decreases-loop-at
decreases-loop-at l = l.end - l.at
