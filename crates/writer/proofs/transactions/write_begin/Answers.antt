use mathlib.Core.List.{[]}
use mathlib.Core.Path.{◌≡◌}
use borrow.Author.Rules.{rules}
use Rattle.std.specs.Prelude.{Err}
use Rattle.message.specs.declared.Message.TheVariants as a
use Rattle.writer.proofs.Whole.{refused_whole, has_room, accepted}
use Rattle.writer.proofs.transactions.write_begin.Goals as goal

pub returns-in_err-n : goal.returns-in_err-n
returns-in_err-n c src =
    let given : c.from_residual.result ≡ Err c.in_err-n.field-0.0 = search rules in
    rw given (refused_whole c.args.version c.args.in_block (a.Begin c.args.m) src c.args.out.now (c.judge_begin.ensures src) c.fit.ensures c.in_err-n.was)

pub store_begin-requires : goal.store_begin-requires
store_begin-requires c = has_room c.args.version c.args.in_block (a.Begin c.args.m) [] c.args.out.now (c.judge_begin.ensures []) c.fit.ensures c.in_ok-n.was

pub returns : goal.returns
returns c src = accepted c.args.version c.args.in_block (a.Begin c.args.m) src c.args.out.now (c.judge_begin.ensures src) c.fit.ensures c.in_ok-n.was c.store_begin.ensures
