use Rattle.std.proofs.Common.{sym, ◌∙◌, ◌*◌, ◌/◌, ◌-◌, arith}
use Rattle.copying.proofs.Copies.{move_turn, moved_fits}
use Rattle.copying.proofs.move_down.Goals as goal

pub returns-then-n-buffer : goal.returns-then-n-buffer
returns-then-n-buffer c =
    let a = c.args in
    let done = 8 * (a.n / 8) in
    move_turn a.buffer.now a.to a.from done (a.n - done) a.n (omega arith) (omega arith) (omega arith) c.move_eights.ensures c.move_bytes.ensures
    ∙ sym (moved_fits a.buffer.now a.to a.from a.n (omega arith) (omega arith))
