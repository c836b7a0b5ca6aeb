-- To be believed (for C). A reply in numbers, as C sees it.
use Rattle.std.specs.Prelude.{ℕ, List, [], ◌∷◌, Some, None, Ok, Err}
use Rattle.session.specs.Answers.{Answer}

-- 0, or the number of a refusal
abbrev pub returned : Answer → ℕ
returned (Ok seen) = 0
returned (Err r) = r.number

-- accepted: of a change 1 and its announcement's tag, identity and column count; else the refusal's offset; zeros, and last how many bytes are released
abbrev pub numbers : Answer → ℕ → List ℕ
numbers (Ok None) released = 0 ∷ 0 ∷ 0 ∷ 0 ∷ released ∷ []
numbers (Ok (Some seen)) released = 1 ∷ seen.tag ∷ seen.identity ∷ seen.columns ∷ released ∷ []
numbers (Err r) released = r.offset ∷ 0 ∷ 0 ∷ 0 ∷ released ∷ []
