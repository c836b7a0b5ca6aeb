use borrow.Author.Rules.{rules}
use Rattle.message.specs.Pieces.{message_pieces}
use Rattle.message.specs.declared.Message.TheVariants as a
use Rattle.writer.proofs.Stores.{stored_by}
use Rattle.writer.proofs.schema.store_type.Goals as goal

pub returns : goal.returns
returns c =
    stored_by (message_pieces c.args.in_block (a.«Type» c.args.m) c.args.source.now) c.args.out.now c.text-2.new.self c.requires (search rules)
    (rw (
      c.text-2.ensures.laid.laid,
      c.text.ensures.laid.laid,
      c.number.ensures.laid.laid,
      c.xid.ensures.laid.laid,
      c.byte.ensures.laid.laid,
    ))
