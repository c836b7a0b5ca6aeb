use Rattle.std.proofs.Common.{◌≡◌, drop}
use Rattle.std.proofs.lemmas.List.Edits.{sets}
use Rattle.copying.proofs.lay_bytes.Given as goal

-- Storing the bytes that are left gives what storing all gives.
abbrev pub invariant-loop-i : goal.invariant-loop-i
invariant-loop-i l = sets l.tail l.i (drop l.i l.part) ≡ sets l.initial.tail 0 l.part
