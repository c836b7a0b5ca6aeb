use borrow.Author.Rules.{rules}
use Rattle.message.specs.Pieces.{message_pieces}
use Rattle.message.specs.declared.Message.TheVariants as a
use Rattle.writer.proofs.Stores.{stored_by}
use Rattle.writer.proofs.changes.store_logical_message.Goals as goal

pub returns : goal.returns
returns c =
    stored_by (message_pieces c.args.in_block (a.Message c.args.m) c.args.source.now) c.args.out.now c.part.new.self c.requires (search rules)
    (rw (
      c.part.ensures.laid.laid,
      c.digits.ensures.laid.laid,
      c.text.ensures.laid.laid,
      c.number-2.ensures.laid.laid,
      c.number.ensures.laid.laid,
      c.xid.ensures.laid.laid,
      c.byte.ensures.laid.laid,
    ))
