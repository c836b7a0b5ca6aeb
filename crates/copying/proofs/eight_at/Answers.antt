use Rattle.std.proofs.Common.{ℕ, ◌≡◌, ◌+◌, ◌*◌, ◌^◌, ◌<◌, ◌≤◌, get_or, refl, arith}
use Rattle.wire.proofs.Numbers.{more, within}
use Rattle.message.specs.Encode.{digits}
use Rattle.copying.proofs.Copies.{digits_more}
use Rattle.copying.proofs.eight_at.Goals as goal
use Rattle.copying.proofs.eight_at.Goals.{In-loop-k, After-from}

pub loop-k-init : goal.loop-k-init
unfolding digits
loop-k-init c = (refl, omega arith)

-- a further byte keeps the number within 64 bits
next : (c : In-loop-k) (b : ℕ) → b < 256 → c.loop-k.v * 256 + b < 2 ^ 64
next c b h = omega (arith, more c.loop-k.k c.loop-k.invariant.1 h, within (the-next c))
  where
    the-next : (c : In-loop-k) → c.loop-k.k + 1 ≤ 8
    the-next c = omega arith

pub overflow_mul-v : goal.overflow_mul-v
overflow_mul-v c = omega (arith, next (goal.at.overflow_mul-v c).In-loop-k 0 (omega arith))

byte : (c : After-from) → let s = c.args in get_or s.part.now (s.at + c.loop-k.k) 0 < 256
byte c = (c.type_inv.part _).fits

pub overflow_add-v : goal.overflow_add-v
overflow_add-v c = rw c.from.ensures (record { fits = next (goal.at.overflow_add-v c).In-loop-k _ (byte c) })

pub loop-k-preserved : goal.loop-k-preserved
loop-k-preserved c =
    let a = c.args in
    let k = c.loop-k.k in
    rw c.from.ensures
    (digits_more a.part.now a.at k _ (omega arith) (byte c) c.loop-k.invariant.0, more k c.loop-k.invariant.1 (byte c))

pub returns : goal.returns
returns c =
    let full : c.loop-k.k ≡ 8 = omega arith in
    rw full at c.loop-k.invariant.0
