use native.Mathlib.Omega.{arith}
use Rattle.message.specs.Encode.{cut}
use Rattle.copying.proofs.Copies.{set_in_tail}
use Rattle.copying.proofs.lay_eight.Goals as goal

pub returns : goal.returns
returns c =
    let eight = cut c.args.part.now c.args.at 8 in
    set_in_tail c.args.tail.now c.args.at eight (omega (arith, c.requires))
    c.eight_at-v.ensures c.lay_digits.ensures
