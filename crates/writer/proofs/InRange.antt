-- DEMAND 1: the refusals of `write_message` are in range. Assumes nothing.
use Prim.Native.Nat.{ℕ}
use mathlib.Core.List.{List}
use mathlib.Core.Bool.{Bool, true, false, cond}
use mathlib.Core.Logic.{◌⊎◌, inl, inr}
use mathlib.Core.Path.{◌≡◌, refl}
use lib.ListN.{length}
use lib.Dec.{leb}
use Rattle.message.specs.declared.Version.{Version}
use Rattle.message.specs.declared.Message.{Message}
use Rattle.message.specs.Messages.{largest}
use Rattle.message.specs.Write.{Writing, bytes, refused, write_message}
use Rattle.message.proofs.InRange.{InRange}
use Rattle.message.proofs.WriteInRange.{write_in_range}
use Rattle.std.specs.Prelude.{Result, Ok, Err}
use Rattle.wire.specs.declared.Refusal.{Refusal}
use Rattle.wire.specs.Cursors.{refuse}
use Rattle.writer.specs.Answer.{answer_of}

-- WRITING any message with any source into any output, under any version:
-- 1 to 6, at most where the largest message ends; or 13 at 0, where the output is too short
abbrev pub AnswerInRange : Type 0
AnswerInRange =
    (v : Version) (b : Bool) (m : Message) (src out : List ℕ) (n o : ℕ) → answer_of (write_message v b m src) out ≡ refuse n o
    → InRange 6 largest n o ⊎ ((n ≡ 13) × (o ≡ 0))

-- what is answered, where the writing's refusals are in range
module _ (out : List ℕ) where
  abbrev Told : Result ℕ Refusal → Type 0
  Told (Ok n) = Unit {0}
  Told (Err r) = InRange 6 largest r.number r.offset ⊎ ((r.number ≡ 13) × (r.offset ≡ 0))

  told : (w : Writing) → ((n o : ℕ) → w ≡ refused n o → InRange 6 largest n o) → Told (answer_of w out)
  told (refused n o) h = inl (h n o refl)
  told (bytes bs) h = go (leb (length bs) (length out))
    where
      go : (t : Bool) → Told (cond t (Ok (length bs)) (refuse 13 0))
      go true = tt
      go false = inr (refl, refl)

pub answer_in_range : AnswerInRange
answer_in_range v b m src out n o e = rw e at (told out (write_message v b m src) (write_in_range v b m src))
