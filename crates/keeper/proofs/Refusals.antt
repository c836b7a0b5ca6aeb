-- What a refusal leaves as it was. Assumes nothing.
use Prim.Native.Nat.{ℕ}
use mathlib.Core.Path.{◌≡◌, refl}
use mathlib.Core.List.{List}
use mathlib.Core.Bool.{false, true≢false}
use lib.ListN.{length}
use Rattle.std.specs.Prelude.{Ok, Err}
use Rattle.session.specs.declared.Place.{Place}
use Rattle.session.specs.Answers.{Answer}
use Rattle.session.specs.declared.Session.{Session}
use Rattle.session.specs.Events.{Event}
use Rattle.session.specs.Rules.{accepts, Heard, unread, heard, hears}
use Rattle.session.specs.Machine.{version_in, place_in, head_in, answer_of}
use Rattle.keeper.specs.Rules.{doing, ruled}
use Rattle.keeper.specs.Records.{Hold}
use Rattle.keeper.specs.Machine.{space_in, After, settled, heard_after, step_of}

-- a message refused by reading, by the session or by the keeper leaves every record, buffer and output, made-up ones too, as it was
pub refused-keeps : (s : Session) (b : Hold) (out xs : List ℕ) (g : ℕ) → accepts (step_of s b out xs g).outcome.answer ≡ false
    → ((step_of s b out xs g).session ≡ s)
    × ((step_of s b out xs g).outcome ≡ record { answer = (step_of s b out xs g).outcome.answer; released = 0; output = out; buffer = b.buffer; held = b.held })
unfolding step_of
refused-keeps s b out xs g = go (hears (version_in (head_in s.head)) (place_in (head_in s.head)) xs)
  where
    Same : After → Type 0
    Same t = (t.session ≡ s) × (t.outcome ≡ record { answer = t.outcome.answer; released = 0; output = out; buffer = b.buffer; held = b.held })

    left : (m : Event) (p : Place) (a : Answer) → accepts (settled s b out m xs g p a).outcome.answer ≡ false → Same (settled s b out m xs g p a)
    left m p (Ok seen) e = absurd (true≢false e)
    left m p (Err r) e = (refl, refl)

    go : (r : Heard) → accepts (heard_after s b out r xs g).outcome.answer ≡ false → Same (heard_after s b out r xs g)
    go (unread n o) e = (refl, refl)
    go (heard m) e = let p = place_in (head_in s.head) in left m p (ruled (space_in b (length out) (doing m)) (doing m) p (length xs) (answer_of s m)) e
