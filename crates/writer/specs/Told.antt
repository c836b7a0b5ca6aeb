-- To be believed (for C). What a writing answers in numbers, as C sees it.
use Rattle.std.specs.Prelude.{ℕ, List, ◌≡◌, Result, Ok, Err}
use Rattle.wire.specs.declared.Refusal.{Refusal}
use Rattle.message.specs.Write.{Writing}
use Rattle.writer.specs.Answer.{answer_of, output_of}

-- the number that is returned: 0, or a refusal's
abbrev pub written_number : Result ℕ Refusal → ℕ
written_number (Ok n) = 0
written_number (Err r) = r.number

-- the result: the length, or a refusal's offset
abbrev pub written_result : Result ℕ Refusal → ℕ
written_result (Ok n) = n
written_result (Err r) = r.offset

-- the number that is returned, the result, and the output after it
pub record Writes (w : Writing) (out : List ℕ) (returned result : ℕ) (out' : List ℕ) : Type 0 where
  pub number : returned ≡ written_number (answer_of w out)
  pub told : result ≡ written_result (answer_of w out)
  pub output : out' ≡ output_of w out
