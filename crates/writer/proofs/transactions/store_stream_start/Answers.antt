use mathlib.Core.List.{[]}
use mathlib.Core.Bool.{false}
use borrow.Author.Rules.{rules}
use Rattle.message.specs.Pieces.{message_pieces}
use Rattle.message.specs.declared.Message.TheVariants as a
use Rattle.writer.proofs.Stores.{stored_by}
use Rattle.writer.proofs.transactions.store_stream_start.Goals as goal

pub returns : goal.returns
returns c =
    stored_by (message_pieces false (a.StreamStart c.args.xid c.args.first) []) c.args.out.now c.number-2.new.self c.requires (search rules)
    (rw (
      c.number-2.ensures.laid.laid,
      c.number.ensures.laid.laid,
      c.byte.ensures.laid.laid,
    ))
