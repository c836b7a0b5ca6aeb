use native.Mathlib.Omega.{arith}
use Rattle.message.proofs.Judged.{length_digits}
use Rattle.writer.proofs.Stores.{lays_none}
use Rattle.writer.proofs.laying.Pen.xid.Goals as goal

pub number-requires : goal.number-requires
number-requires c =
    let h = rw c.if-in_block.true at c.requires in
    omega (arith, h, length_digits 4 c.args.xid)

pub returns-else-in_block-clause-laid : goal.returns-else-in_block-clause-laid
returns-else-in_block-clause-laid c = rw c.if-in_block.false (lays_none c.args.self.now)
