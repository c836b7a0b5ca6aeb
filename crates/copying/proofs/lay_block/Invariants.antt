use Rattle.std.proofs.Common.{◌≡◌, ◌*◌}
use Rattle.std.proofs.lemmas.List.Edits.{sets}
use Rattle.message.specs.Encode.{cut}
use Rattle.copying.proofs.lay_block.Given as goal

-- The first k eights are laid.
abbrev pub invariant-loop-k : goal.invariant-loop-k
invariant-loop-k l = l.tail ≡ sets l.initial.tail l.at (cut l.part l.at (8 * l.k))
