-- What the writer answered, as numbers. Assumes nothing.
use Prim.Native.Nat.{ℕ}
use mathlib.Core.List.{List}
use mathlib.Core.Path.{◌≡◌, sym, ◌∙◌, ap}
use Rattle.message.specs.Write.{Writing}
use Rattle.std.specs.Prelude.{Result}
use Rattle.wire.specs.declared.Refusal.{Refusal}
use Rattle.writer.specs.Answer.{Settles}
use Rattle.writer.specs.Told.{written_number, written_result, Writes}

pub tells :
    (w : Writing) (out out' : List ℕ) (r r' : Result ℕ Refusal) → Settles w out r out' → r ≡ r'
    → Writes w out (written_number r') (written_result r') out'
tells w out out' r r' s e =
    record { number = ap written_number (sym e ∙ s.answer); told = ap written_result (sym e ∙ s.answer); output = s.output }
