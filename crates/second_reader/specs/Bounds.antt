-- For contracts only. What holds of each answer, whatever the bytes are
use Rattle.std.specs.Prelude.{◌≡◌, ℕ, ◌≤◌, List, length, Result, Ok, Err, IfErr}
use Rattle.second_reader.specs.declared.refusals.Reason.{Reason}
use Rattle.second_reader.specs.declared.refusals.Reason.TheVariants.{Version, Short, Kind, Field, LeftOver, Range, Value}
use Rattle.second_reader.specs.declared.refusals.Refused.{Refused}
use Rattle.second_reader.specs.declared.fields.Step.{Step}
use Rattle.second_reader.specs.declared.fields.Tuple.{Tuple}
use Rattle.second_reader.specs.declared.seen.Seen.{Seen}

-- the number of the refusal table
abbrev pub number_of : Reason → ℕ
number_of Version = 1
number_of Short = 2
number_of Kind = 3
number_of Field = 4
number_of LeftOver = 5
number_of Range = 6
number_of Value = 17

-- a refusal at an offset between two
pub record Stopped (from size : ℕ) (r : Refused) : Type 0 where
  pub number : number_of r.reason ≤ 6
  pub onward : from ≤ r.offset
  pub within : r.offset ≤ size

-- no refusal has a larger number
abbrev pub Numbered : ℕ → Result Step Refused → Type 0
Numbered most (Ok step) = Unit {0}
Numbered most (Err r) = number_of r.reason ≤ most

-- a step from an offset, or its refusal: it goes forward, and not past the end
abbrev pub Onward : ℕ → ℕ → Result Step Refused → Type 0
Onward from size (Ok step) = (from ≤ step.at) × (step.at ≤ size)
Onward from size (Err r) = (from ≤ r.offset) × (r.offset ≤ size)

-- such a step of a layout's fields
abbrev pub Advanced : ℕ → ℕ → Result Step Refused → Type 0
Advanced from size (Ok step) = (from ≤ step.at) × (step.at ≤ size)
Advanced from size (Err r) = Stopped from size r

-- a tuple: no more columns than a table has, and no more bytes of values than were passed
pub record IsTuple (start size : ℕ) (r : Tuple) : Type 0 where
  pub within : start ≤ size → r.end ≤ size
  pub columns : r.columns ≤ 1600
  pub values : r.value_bytes ≤ r.end

abbrev pub Tupled : ℕ → ℕ → Result Tuple Refused → Type 0
Tupled start size (Ok tuple) = IsTuple start size tuple
Tupled start size (Err r) = (number_of r.reason ≤ 6) × (start ≤ size → r.offset ≤ size)

-- reading goes on in the same bytes, or is refused within them
pub record Went (before after : List ℕ) (r : Result Unit Refused) : Type 0 where
  pub same : after ≡ before
  pub refused : IfErr r (Stopped 0 (length before))

-- a whole message, or a refusal
abbrev pub Answered : ℕ → Result Seen Refused → Type 0
Answered size (Ok seen) = (seen.length ≡ size) × (seen.values.count ≤ 16)
Answered size (Err r) = Stopped 0 size r
