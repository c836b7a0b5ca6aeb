-- To be believed (the order of turns). TURNS (request 105): two neighbouring blocks of different streamed transactions may change places.
use Rattle.std.specs.Prelude.{ℕ, ◌≡◌, List, [], ◌∷◌, ◌++◌, Bool, true, false, ◌&&◌, length, drop}
use Rattle.message.specs.declared.Version.{Version}
use Rattle.message.specs.declared.Message.TheVariants as m
use Rattle.std.specs.Prelude.{Ok}
use Rattle.message.specs.Messages.{read_message}
use Rattle.session.specs.declared.Place.TheVariants.{Block}
use Rattle.session.specs.Answers.{Answer}
use Rattle.session.specs.Events.{StreamStop}
use Rattle.session.specs.History.{Given, bytes_of}
use Rattle.session.specs.Rules.{accepts, heard, hears, Start, version_of}
use Rattle.session.specs.Machine.{start_of}
use Rattle.session.specs.Runs.{run}

-- A BLOCK OF x, as its messages are read: the first, outside of blocks, as a Stream Start of x; the others in the block, up to the first E, which is the last
pub data ToStop (v : Version) (x : ℕ) : List Given → Type 0 where
  stops : {g : Given} → hears v (Block x) (bytes_of g) ≡ heard StreamStop → ToStop v x (g ∷ [])
  goes : {g : Given} {l : List Given} → (hears v (Block x) (bytes_of g) ≡ heard StreamStop → ⊥) → ToStop v x l → ToStop v x (g ∷ l)

pub data BlockOf (v : Version) (x : ℕ) : List Given → Type 0 where
  starts : {g : Given} {first : ℕ} {l : List Given} → read_message v false (bytes_of g) ≡ Ok (m.StreamStart x first) → ToStop v x l → BlockOf v x (g ∷ l)

-- WHAT MESSAGES GET where others were given before them, by what the messages of a whole list get
abbrev pub gets_after : {A G : Type 0} → (List A → List G) → List A → List A → List G
gets_after gets before l = drop (length before) (gets (before ++ l))

-- IN EITHER ORDER: each message before `one` and `two`, of both and after them gets the same
pub record EitherOrder {A G : Type 0} (gets gets' : List A → List G) (before one two after : List A) : Type 0 where
  pub earlier : gets before ≡ gets' before
  pub first : gets_after gets before one ≡ gets_after gets' (before ++ two) one
  pub second : gets_after gets (before ++ one) two ≡ gets_after gets' before two
  pub later : gets_after gets (before ++ (one ++ two)) after ≡ gets_after gets' (before ++ (two ++ one)) after

abbrev pub all_accepted : List Answer → Bool
all_accepted [] = true
all_accepted (a ∷ l) = accepts a && all_accepted l

-- THE STATEMENT for a session alone. However it starts and whatever messages go before: where `one` is a block of x and `two` a block of y, x and y
-- differ, and every message of both is accepted in this order, each message of both and every message after them is answered the same in either order:
-- a change with its announcement's tag, identity and column count. So all are accepted in the other order too. Tags travel with their messages.
abbrev pub Turns : Type 0
Turns =
    (start : Start) (x y : ℕ) → (x ≡ y → ⊥) → (before one two after : List Given) → BlockOf (version_of start) x one → BlockOf (version_of start) y two
    → all_accepted (gets_after (run (start_of start)) before (one ++ two)) ≡ true → EitherOrder (run (start_of start)) (run (start_of start)) before one two after
