use Rattle.std.proofs.Common.{◌≡◌, ◌^◌, ◌<◌}
use Rattle.message.specs.Encode.{digits, cut}
use Rattle.copying.proofs.eight_at.Given as goal

-- The digits of the number so far are the first k bytes.
abbrev pub invariant-loop-k : goal.invariant-loop-k
invariant-loop-k l = (digits l.k l.v ≡ cut l.part l.at l.k) × (l.v < 256 ^ l.k)
