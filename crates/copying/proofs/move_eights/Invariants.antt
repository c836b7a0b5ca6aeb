use Rattle.std.proofs.Common.{◌≡◌, ◌*◌}
use Rattle.std.proofs.lemmas.List.Edits.{sets}
use Rattle.message.specs.Encode.{cut}
use Rattle.copying.proofs.move_eights.Given as goal

-- The first k eights are moved.
abbrev pub invariant-loop-k : goal.invariant-loop-k
invariant-loop-k l = l.buffer ≡ sets l.initial.buffer l.to (cut l.initial.buffer l.from (8 * l.k))
