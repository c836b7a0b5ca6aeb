-- To be believed (the order of turns). TURNS WITH A KEEPER (request 105): two neighbouring blocks of different streamed transactions may change places.
use Rattle.std.specs.Prelude.{ℕ, ◌≡◌, List, ◌++◌, map, true, length}
use Rattle.session.specs.Answers.{Answer}
use Rattle.session.specs.History.{Given}
use Rattle.session.specs.Rules.{Start, version_of}
use Rattle.session.specs.Machine.{start_of}
use Rattle.session.specs.Turns.{BlockOf, gets_after, EitherOrder, all_accepted}
use Rattle.keeper.specs.Rules.{Call, call, Outcome}
use Rattle.keeper.specs.Records.{hold}
use Rattle.keeper.specs.Runs.{run}

-- the message of a call
abbrev pub given_of : Call → Given
given_of (call g out) = g

-- WHAT A MESSAGE GETS: its answer, how many bytes it released, and its output
pub record Got : Type 0 where
  pub answer : Answer
  pub released : ℕ
  pub output : List ℕ

abbrev pub gotten : Outcome → Got
gotten o = record { answer = o.answer; released = o.released; output = o.output }

abbrev pub answer_of : Got → Answer
answer_of g = g.answer

-- what messages get from a fresh session with an empty keeper
unfoldable pub gets : Start → List ℕ → List Call → List Got
gets start buffer l = map gotten (run (start_of start) (hold buffer 0) l)

-- THE STATEMENT. However the session starts, with two buffers of one length, whatever is in them, and whatever messages go before, any bytes with any
-- tags and any outputs: where `one` is a block of x and `two` a block of y, x and y differ, and every message of both is accepted in this order, each
-- message before them, of both and after them gets the same in either order. So all are accepted in the other order too. Tag and output travel with their message.
abbrev pub Turns : Type 0
Turns =
    (start : Start) (buffer buffer' : List ℕ) → length buffer ≡ length buffer' → (x y : ℕ) → (x ≡ y → ⊥) → (before one two after : List Call)
    → BlockOf (version_of start) x (map given_of one) → BlockOf (version_of start) y (map given_of two)
    → all_accepted (map answer_of (gets_after (gets start buffer) before (one ++ two))) ≡ true → EitherOrder (gets start buffer) (gets start buffer') before one two after
