use borrow.Author.Rules.{rules}
use Rattle.message.specs.Pieces.{message_pieces}
use Rattle.message.specs.declared.Message.TheVariants as a
use Rattle.writer.proofs.Stores.{stored_by}
use Rattle.writer.proofs.changes.store_delete.Goals as goal

pub returns : goal.returns
returns c =
    stored_by (message_pieces c.args.in_block (a.Delete c.args.m) c.args.source.now) c.args.out.now c.section.new.self c.requires.1 (search rules)
    (rw (
      c.section.ensures.laid.laid,
      c.byte-2.ensures.laid.laid,
      c.number.ensures.laid.laid,
      c.xid.ensures.laid.laid,
      c.byte.ensures.laid.laid,
      c.requires.0,
    ))
