use mathlib.Core.Path.{◌≡◌}
use borrow.Author.Rules.{rules}
use Rattle.std.specs.Prelude.{Err}
use Rattle.message.specs.declared.Message.TheVariants as a
use Rattle.writer.proofs.Whole.{refused_whole, has_room, accepted}
use Rattle.writer.proofs.changes.write_insert.Goals as goal

pub returns-in_err-n : goal.returns-in_err-n
returns-in_err-n c =
    let given : c.from_residual.result ≡ Err c.in_err-n.field-0.0 = search rules in
    rw given (refused_whole c.args.version c.args.in_block (a.Insert c.args.m) c.args.source.now c.args.out.now (c.judge_insert.ensures c.args.version c.args.source.now c.open-reach.ensures c.tuple_end-end.ensures) c.fit.ensures c.in_err-n.was)

pub store_insert-requires : goal.store_insert-requires
store_insert-requires c = (c.tuple_end-end.ensures, has_room c.args.version c.args.in_block (a.Insert c.args.m) c.args.source.now c.args.out.now (c.judge_insert.ensures c.args.version c.args.source.now c.open-reach.ensures c.tuple_end-end.ensures) c.fit.ensures c.in_ok-n.was)

pub returns : goal.returns
returns c = accepted c.args.version c.args.in_block (a.Insert c.args.m) c.args.source.now c.args.out.now (c.judge_insert.ensures c.args.version c.args.source.now c.open-reach.ensures c.tuple_end-end.ensures) c.fit.ensures c.in_ok-n.was c.store_insert.ensures
