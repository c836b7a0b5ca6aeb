-- A row that was taken for a message: not that message's flat form, or written. Assumes nothing.
use Prim.Native.Nat.{ℕ}
use mathlib.Core.List.{List}
use mathlib.Core.Bool.{Bool, true, false}
use Rattle.std.specs.Prelude.{Option, Some, Result}
use mathlib.Core.Path.{◌≡◌, refl}
use Rattle.message.specs.declared.Version.{Version}
use Rattle.message.specs.declared.Message.{Message}
use Rattle.message.specs.Write.{write_message}
use Rattle.wire.specs.declared.Refusal.{Refusal}
use Rattle.wire.specs.Cursors.{refuse}
use Rattle.writer.specs.Answer.{Settles}
use Rattle.capi.specs.Flat.{flat, same, whole, write_found}

-- the message that a row's numbers made, and whether the row was found to be its flat form
pub record Taken (ns : List ℕ) (f : Option Message) (found : Bool) : Type 0 where
  pub it : Message
  pub made : f ≡ Some it
  pub tested : found ≡ same 16 (flat it) ns

module _ (v : Version) (b : Bool) (src : List ℕ) {ns : List ℕ} {f : Option Message} {found : Bool} (t : Taken ns f found) where
  -- a row that is not the flat form is refused
  pub other : {r : Result ℕ Refusal} {o : List ℕ} → found ≡ false → r ≡ refuse 4 0 → Settles (write_found v b (whole ns f) src) o r o
  other n q = rw (t.made, ← t.tested, n) (record { answer = q; output = refl })

  -- else the message is written
  pub written : {r : Result ℕ Refusal} {o o' : List ℕ} → found ≡ true → Settles (write_message v b t.it src) o r o' → Settles (write_found v b (whole ns f) src) o r o'
  written y s = rw (t.made, ← t.tested, y) s
