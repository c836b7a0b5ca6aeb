use Rattle.std.specs.Prelude.{Some}
use Rattle.message.specs.declared.Message.TheVariants as a
use Rattle.message.specs.Kinds.{stream_start}
use Rattle.capi.specs.Flat.{message_in}
use Rattle.capi.proofs.Settled.{Taken, other, written}
use Rattle.capi.proofs.rows.write_stream_start.Goals as goal
use Rattle.capi.proofs.rows.write_stream_start.Goals.{After-same_row}

taken :
    (c : After-same_row)
    → let ns = c.args.row.now in
    Taken ns (message_in ns (Some stream_start)) c.same_row.result
taken c =
    record {
      it = a.StreamStart c.fitting-xid.result c.fitting-first.result;
      made = rw (c.fitting-first.ensures, c.fitting-xid.ensures);
      tested = rw (c.same_row.ensures, c.flatten_stream_start.ensures);
    }

pub returns-then-same_row : goal.returns-then-same_row
unfolding taken
returns-then-same_row c src =
    written _ _ _ (taken (goal.at.returns-then-same_row c).After-same_row) c.if-same_row.true (c.write_stream_start.ensures src)

pub returns-else-same_row : goal.returns-else-same_row
returns-else-same_row c src = other _ _ _ (taken (goal.at.returns-else-same_row c).After-same_row) c.if-same_row.false c.refused.ensures
