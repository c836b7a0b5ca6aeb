-- To be believed (demand 2). What `write_message` answers, and what the output holds then.
use Rattle.std.specs.Prelude.{ℕ, List, ◌++◌, cond, ◌≡◌, length, drop, leb, Result, Ok}
use Rattle.wire.specs.declared.Refusal.{Refusal}
use Rattle.wire.specs.Cursors.{refuse}
use Rattle.message.specs.Write.{Writing, bytes, refused}

-- the length, or the refusal; an output that is shorter than the message is refused last
abbrev pub answer_of : Writing → List ℕ → Result ℕ Refusal
answer_of (refused n offset) out = refuse n offset
answer_of (bytes bs) out = cond (leb (length bs) (length out)) (Ok (length bs)) (refuse 13 0)

-- the message's bytes and the rest of the output as it was; as it was where the message is refused
abbrev pub output_of : Writing → List ℕ → List ℕ
output_of (refused n offset) out = out
output_of (bytes bs) out = cond (leb (length bs) (length out)) (bs ++ drop (length bs) out) out

-- the answer r, and the output before and after
pub record Settles (w : Writing) (out : List ℕ) (r : Result ℕ Refusal) (out' : List ℕ) : Type 0 where
  pub answer : r ≡ answer_of w out
  pub output : out' ≡ output_of w out
