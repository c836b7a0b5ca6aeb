use mathlib.Core.List.{[], ◌∷◌}
use Rattle.message.specs.Pieces.{byte_piece, tuple_piece}
use Rattle.writer.proofs.Old.{old-steps}
use Rattle.writer.proofs.changes.judge_update.Goals as goal

pub returns : goal.returns
returns c version src opened middle end =
    rw (
      c.section.ensures,
      c.bytes.ensures,
      c.old.ensures,
      c.id.ensures,
      c.xid.ensures,
      opened,
      end,
    )
    (old-steps src c.args.m.old middle _ (byte_piece 0x4E ∷ tuple_piece src c.args.m.tuple ∷ []))
