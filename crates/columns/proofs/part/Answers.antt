use Prim.Native.Nat.{◌+◌, ◌-◌}
use mathlib.Core.Path.{◌≡◌, refl}
use native.Mathlib.Omega.{arith}
use Rattle.columns.proofs.Parts.{lacking, there}
use Rattle.columns.proofs.part.Goals as goal

pub returns-then-message-start : goal.returns-then-message-start
returns-then-message-start c =
    let w = lacking c.args.message.now c.args.span (λ l. (omega arith, omega arith)) in
    record { bytes = rw w; block = refl; offset = rw w (omega arith) }

pub returns-then-message-start-2 : goal.returns-then-message-start-2
returns-then-message-start-2 c =
    let w = lacking c.args.message.now c.args.span (λ l. (omega arith, omega arith)) in
    record { bytes = rw w; block = refl; offset = rw w (omega arith) }

pub returns : goal.returns
returns c =
    let s = c.args.span in
    let n : s.start + s.length - s.start ≡ s.length = omega arith in
    let w = there c.args.message.now s (omega arith) in
    record { bytes = rw (w, n); block = refl; offset = rw w (omega arith) }
