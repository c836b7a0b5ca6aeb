-- For contracts only. What the answers of two readers are compared by
use Rattle.std.specs.Prelude.{ℕ, Result, Ok, Err}
use Rattle.wire.specs.declared.Refusal.{Refusal}
use Rattle.message.specs.Messages.{Read}
use Rattle.second_reader.specs.declared.seen.Seen.{Seen}

-- the number of a refusal, and 0 where there is none
abbrev pub number_of : {A : Type 0} → Result A Refusal → ℕ
number_of (Ok x) = 0
number_of (Err r) = r.number

-- the offset that the second reader gives where the reader gives this, for a message of some size
abbrev pub offset_of : ℕ → Read → ℕ
offset_of size (Ok m) = size
offset_of size (Err r) = r.offset

-- the offset of an answer
abbrev pub told_offset : Result Seen Refusal → ℕ
told_offset (Ok seen) = seen.length
told_offset (Err r) = r.offset
