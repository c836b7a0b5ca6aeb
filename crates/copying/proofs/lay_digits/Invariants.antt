use Rattle.std.proofs.Common.{◌≡◌}
use Rattle.std.proofs.lemmas.List.Edits.{sets}
use Rattle.message.specs.Encode.{digits}
use Rattle.copying.proofs.lay_digits.Given as goal

-- Storing the digits that are left gives what storing all gives.
abbrev pub invariant-loop-k : goal.invariant-loop-k
invariant-loop-k l = sets l.tail 0 (digits l.k l.v) ≡ sets l.initial.tail 0 (digits l.width l.value)
