use mathlib.Core.Bool.{false}
use borrow.Author.Rules.{rules}
use Rattle.message.specs.Pieces.{message_pieces}
use Rattle.message.specs.declared.Message.TheVariants as a
use Rattle.writer.proofs.Stores.{stored_by}
use Rattle.writer.proofs.transactions.store_origin.Goals as goal

pub returns : goal.returns
returns c =
    stored_by (message_pieces false (a.Origin c.args.m) c.args.source.now) c.args.out.now c.text.new.self c.requires (search rules)
    (rw (
      c.text.ensures.laid.laid,
      c.number.ensures.laid.laid,
      c.byte.ensures.laid.laid,
    ))
