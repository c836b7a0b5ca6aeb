use Rattle.std.specs.Prelude.{Some}
use mir.Syntax.{w64}
use mir.Val.{to_z, of_z}
use mir.ValLaws.{to_z-of_z}
use Rattle.message.specs.declared.Message.TheVariants as a
use Rattle.message.specs.Kinds.{begin}
use Rattle.capi.specs.Flat.{message_in}
use Rattle.capi.proofs.Settled.{Taken, other, written}
use Rattle.capi.proofs.rows.write_begin.Goals as goal
use Rattle.capi.proofs.rows.write_begin.Goals.{After-same_row}

taken :
    (c : After-same_row)
    → let ns = c.args.row.now in
    Taken ns (message_in ns (Some begin)) c.same_row.result
taken c =
    record {
      it = a.Begin (record {
        final_lsn = c.fitting.result;
        time = to_z w64 (of_z w64 c.cast_signed.result);
        xid = c.fitting-3.result;
      });
      made = rw (
        c.fitting-3.ensures,
        to_z-of_z w64 c.cast_signed.result (record { sfits = c.cast_signed.type_inv }),
        c.cast_signed.ensures,
        c.fitting-2.ensures,
        c.fitting.ensures,
      );
      tested = rw (c.same_row.ensures, c.flatten_begin.ensures);
    }

pub returns-then-same_row : goal.returns-then-same_row
unfolding taken
returns-then-same_row c src =
    written _ _ _ (taken (goal.at.returns-then-same_row c).After-same_row) c.if-same_row.true (c.write_begin.ensures src)

pub returns-else-same_row : goal.returns-else-same_row
returns-else-same_row c src = other _ _ _ (taken (goal.at.returns-else-same_row c).After-same_row) c.if-same_row.false c.refused.ensures
