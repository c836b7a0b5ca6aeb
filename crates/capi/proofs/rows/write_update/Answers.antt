use Rattle.std.specs.Prelude.{Some}
use Rattle.message.specs.declared.Message.TheVariants as a
use Rattle.message.specs.Kinds.{update}
use Rattle.capi.specs.Flat.{message_in}
use Rattle.capi.proofs.Settled.{Taken, other, written}
use Rattle.capi.proofs.rows.write_update.Goals as goal
use Rattle.capi.proofs.rows.write_update.Goals.{After-same_row}

taken :
    (c : After-same_row)
    → let ns = c.args.row.now in
    Taken ns (message_in ns (Some update)) c.same_row.result
taken c =
    record {
      it = a.Update (record {
        xid = c.fitting.result;
        relation = c.fitting-2.result;
        old = c.old_tuple.result;
        tuple = c.fitting-3.result;
      });
      made = rw (c.fitting-3.ensures, c.old_tuple.ensures, c.fitting-2.ensures, c.fitting.ensures);
      tested = rw (c.same_row.ensures, c.flatten_update.ensures);
    }

pub returns-then-same_row : goal.returns-then-same_row
unfolding taken
returns-then-same_row c =
    written _ _ _ (taken (goal.at.returns-then-same_row c).After-same_row) c.if-same_row.true c.write_update.ensures

pub returns-else-same_row : goal.returns-else-same_row
returns-else-same_row c = other _ _ _ (taken (goal.at.returns-else-same_row c).After-same_row) c.if-same_row.false c.refused.ensures
