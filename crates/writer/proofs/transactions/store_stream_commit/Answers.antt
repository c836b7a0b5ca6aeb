use mathlib.Core.List.{[]}
use mathlib.Core.Bool.{false}
use borrow.Author.Rules.{rules}
use mir.ValLaws.{to_z-of_z}
use mir.Val.{SFits}
use mir.Syntax.{w64}
use Rattle.message.specs.Pieces.{message_pieces}
use Rattle.message.specs.declared.Message.TheVariants as a
use Rattle.writer.proofs.Stores.{stored_by}
use Rattle.writer.proofs.transactions.store_stream_commit.Goals as goal

pub returns : goal.returns
returns c =
    let fits : SFits w64 c.args.m.time = search rules in
    stored_by (message_pieces false (a.StreamCommit c.args.m) []) c.args.out.now c.number-5.new.self c.requires (search rules)
    (rw (
      c.number-5.ensures.laid.laid,
      c.number-4.ensures.laid.laid,
      c.number-3.ensures.laid.laid,
      c.number-2.ensures.laid.laid,
      c.number.ensures.laid.laid,
      c.byte.ensures.laid.laid,
      c.cast_unsigned.ensures,
      to_z-of_z w64 c.args.m.time fits,
    ))
