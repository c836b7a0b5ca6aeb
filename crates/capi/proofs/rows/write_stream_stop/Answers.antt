use Rattle.std.specs.Prelude.{Some}
use mathlib.Core.Path.{refl}
use Rattle.message.specs.declared.Message.TheVariants as a
use Rattle.message.specs.Kinds.{stream_stop}
use Rattle.capi.specs.Flat.{message_in}
use Rattle.capi.proofs.Settled.{Taken, other, written}
use Rattle.capi.proofs.rows.write_stream_stop.Goals as goal
use Rattle.capi.proofs.rows.write_stream_stop.Goals.{After-same_row}

taken :
    (c : After-same_row)
    → let ns = c.args.row.now in
    Taken ns (message_in ns (Some stream_stop)) c.same_row.result
taken c =
    record {
      it = a.StreamStop;
      made = refl;
      tested = rw (c.same_row.ensures, c.flatten_stream_stop.ensures);
    }

pub returns-then-same_row : goal.returns-then-same_row
unfolding taken
returns-then-same_row c src =
    written _ _ _ (taken (goal.at.returns-then-same_row c).After-same_row) c.if-same_row.true (c.write_stream_stop.ensures src)

pub returns-else-same_row : goal.returns-else-same_row
returns-else-same_row c src = other _ _ _ (taken (goal.at.returns-else-same_row c).After-same_row) c.if-same_row.false c.refused.ensures
