use borrow.Author.Rules.{rules}
use Rattle.writer.proofs.Old.{update_stored}
use Rattle.writer.proofs.changes.store_update.Goals as goal

pub returns : goal.returns
returns c =
    update_stored c.args.in_block c.args.m c.args.source.now c.args.out.now c.section.new.self c.requires.2 c.requires.0 (search rules)
    (rw (
      c.section.ensures.laid.laid,
      c.byte-2.ensures.laid.laid,
      c.old.ensures.laid.laid,
      c.number.ensures.laid.laid,
      c.xid.ensures.laid.laid,
      c.byte.ensures.laid.laid,
      c.requires.1,
    ))
