use Rattle.std.proofs.Common.{◌≡◌}
use Rattle.std.proofs.lemmas.List.Edits.{sets}
use Rattle.message.specs.Encode.{cut}
use Rattle.copying.proofs.move_bytes.Given as goal

-- The first i bytes are moved.
abbrev pub invariant-loop-i : goal.invariant-loop-i
invariant-loop-i l = l.buffer ≡ sets l.initial.buffer l.to (cut l.initial.buffer l.from l.i)
