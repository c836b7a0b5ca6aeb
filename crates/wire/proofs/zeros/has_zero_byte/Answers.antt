use Rattle.std.proofs.Common.{◌+◌, ◌/◌, ◌^◌, arith}
use Rattle.wire.proofs.Eights.{units, tops, ones, behind, zero_told}
use Rattle.wire.proofs.zeros.has_zero_byte.Goals as goal

pub overflow_sub-result : goal.overflow_sub-result
overflow_sub-result c = omega (arith, c.ranges.n.fits)

pub returns : goal.returns
unfolding units tops ones behind
returns c =
    let less = c.wrapping_sub_u64-less.result in
    zero_told 8 less c.args.n ((less + units 8) / 2 ^ 64) (omega (arith, c.ranges.n.fits)) (omega (arith, c.wrapping_sub_u64-less.ensures))
