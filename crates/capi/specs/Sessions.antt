-- To be believed (for C). A session's answer in numbers.
use Rattle.std.specs.Prelude.{[], ◌∷◌, Some, None, Ok, Err}
use Rattle.session.specs.Answers.{Answer}
use Rattle.capi.specs.Filled.{Filled, filled, padded}

-- accepted: 0, and of a change 1 and its announcement's tag, identity and column count; else a refusal and its offset; and zeros behind
abbrev pub answer_numbers : Answer → Filled
answer_numbers (Ok None) = filled 0 (padded 4 [])
answer_numbers (Ok (Some seen)) = filled 0 (1 ∷ seen.tag ∷ seen.identity ∷ seen.columns ∷ [])
answer_numbers (Err r) = filled r.number (padded 4 (r.offset ∷ []))
