-- BOTH ROUND TRIPS, for every version and place, with no premise but that reading or writing accepts. Assumes nothing.
-- First over the definitions, then over what `read_message` and `write_message` promise.
use Prim.Native.Nat.{ℕ, zero, suc, ◌<◌, ◌≤◌}
use mathlib.Core.List.{List, [], ◌∷◌, ◌++◌}
use mathlib.Core.Bool.{Bool}
use mathlib.Core.Path.{◌≡◌, ◌∙◌}
use native.Mathlib.Omega.{arith}
use borrow.Author.Tests.{le-leb}
use lib.ListN.{length, get_or, take, drop}
use Rattle.message.specs.declared.Version.{Version}
use Rattle.message.specs.declared.Message.{Message}
use Rattle.std.specs.Prelude.{Result, Ok}
use Rattle.message.specs.Messages.{read_message}
use Rattle.message.specs.Write.{bytes, write_message}
use Rattle.message.specs.Same.{SameMessage}
use Rattle.message.proofs.RoundTrip as round_trip
use Rattle.wire.specs.declared.Refusal.{Refusal}
use Rattle.writer.specs.Answer.{Settles}
use Rattle.writer.proofs.Whole.{wrote}

pub record Byte : Type 0 where
  pub number : ℕ
  pub small : number < 256

abbrev pub numbers : List Byte → List ℕ
numbers [] = []
numbers (x ∷ xs) = x.number ∷ numbers xs

pub numbers_small : (xs : List Byte) (i : ℕ) → get_or (numbers xs) i 0 < 256
numbers_small [] i = omega arith
numbers_small (x ∷ xs) zero = x.small
numbers_small (x ∷ xs) (suc i) = numbers_small xs i

module _ (v : Version) (in_block : Bool) where
  -- bytes that are read and written again are the same bytes
  pub write_after_read :
      (xs : List Byte) (m : Message) → read_message v in_block (numbers xs) ≡ Ok m → write_message v in_block m (numbers xs) ≡ bytes (numbers xs)
  write_after_read xs m = round_trip.write_after_read v in_block (numbers xs) (numbers_small xs) m

  -- a message that is written and read again has the same numbers, texts and columns
  pub read_after_write :
      (m : Message) (source ys : List ℕ) → write_message v in_block m source ≡ bytes ys
      → (m' : Message) × (read_message v in_block ys ≡ Ok m') × SameMessage m source m' ys
  read_after_write m source ys = round_trip.read_after_write v in_block m source ys

  -- what `write_message` gives for a message that `read_message` gave, with its bytes as source, in an output that is no shorter
  pub written_again :
      (xs : List Byte) (m : Message) (out out' : List ℕ) (r : Result ℕ Refusal) → read_message v in_block (numbers xs) ≡ Ok m → Settles (write_message v in_block m (numbers xs)) out r out'
      → length (numbers xs) ≤ length out → (r ≡ Ok (length (numbers xs))) × (out' ≡ numbers xs ++ drop (length (numbers xs)) out)
  written_again xs m out out' r q s l =
      let w = write_after_read xs m q in
      let t = le-leb (length (numbers xs)) (length out) l in
      (s.answer ∙ rw (w, t), s.output ∙ rw (w, t))

  -- what `read_message` gives for what `write_message` wrote
  pub read_again :
      (m : Message) (source out out' : List ℕ) (n : ℕ) → Settles (write_message v in_block m source) out (Ok n) out'
      → (m' : Message) × (read_message v in_block (take n out') ≡ Ok m') × SameMessage m source m' (take n out')
  read_again m source out out' n s =
      let w = wrote (write_message v in_block m source) out out' n s in
      rw w.2 (read_after_write m source w.0 w.1)
