use mathlib.Core.List.{[]}
use mathlib.Core.Path.{◌≡◌}
use borrow.Author.Rules.{rules}
use Rattle.std.specs.Prelude.{Err}
use Rattle.message.specs.Pieces.{message_pieces}
use Rattle.message.specs.declared.Message.TheVariants as a
use Rattle.writer.proofs.Stores.{stored_by}
use Rattle.writer.proofs.Whole.{refused_whole, has_room, accept_as}
use Rattle.writer.proofs.transactions.write_stream_stop.Goals as goal

pub returns-in_err-fit : goal.returns-in_err-fit
returns-in_err-fit c src =
    let given : c.from_residual.result ≡ Err c.in_err-fit.field-0.0 = search rules in
    rw given (refused_whole c.args.version c.args.in_block a.StreamStop src c.args.out.now c.open.ensures c.fit.ensures c.in_err-fit.was)

pub byte-requires : goal.byte-requires
byte-requires c = has_room c.args.version c.args.in_block a.StreamStop [] c.args.out.now c.open.ensures c.fit.ensures c.in_ok-fit.was

pub returns : goal.returns
returns c src =
    let room = has_room c.args.version c.args.in_block a.StreamStop src c.args.out.now c.open.ensures c.fit.ensures c.in_ok-fit.was in
    accept_as c.args.version c.args.in_block a.StreamStop src c.args.out.now c.open.ensures c.fit.ensures c.in_ok-fit.was c.byte.ensures.laid.at
    (stored_by (message_pieces c.args.in_block a.StreamStop src) c.args.out.now c.byte.new.self room (search rules) c.byte.ensures.laid.laid)
