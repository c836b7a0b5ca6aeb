use Prim.Native.Nat.{◌+◌, ◌≤◌}
use mathlib.Core.Path.{◌≡◌, refl}
use lib.ListN.{length}
use Rattle.message.specs.Encode.{digits}
use Rattle.message.proofs.Judged.{length_digits}
use Rattle.copying.proofs.Copies.{laid_in_tail}
use Rattle.writer.proofs.Stores.{lays}
use Rattle.writer.proofs.laying.Pen.digits.Goals as goal

pub returns-clause-laid : goal.returns-clause-laid
returns-clause-laid c =
    let p = c.args.self.now in
    let bs = digits c.args.width c.args.value in
    let size = length_digits c.args.width c.args.value in
    let fits : p.at + length bs ≤ length p.out.now = rw size c.requires in
    let end : p.at + c.args.width ≡ p.at + length bs = rw size in
    lays bs p _ (laid_in_tail p.out.now p.at bs fits refl c.lay_number.ensures) end
