use mir.Syntax.{w64}
use mir.ValLaws.{to_z-of_z}
use borrow.Author.Rules.{rules}
use Rattle.capi.proofs.flat.flatten_commit.Goals as goal

pub returns : goal.returns
returns c = rw (c.number.ensures, c.cast_unsigned.ensures, to_z-of_z w64 c.args.m.time (search rules))
