-- To be believed (`last_answer` alone). A list of messages in one slice of bytes: each ends where `ends` says and starts where the one before ended.
use Rattle.std.specs.Prelude.{ℕ, ◌-◌, List, [], ◌∷◌, cond, ◌&&◌, leb, length, take, drop}
use Rattle.wire.specs.Lists.{first, rest}
use Rattle.session.specs.Answers.{Answer}
use Rattle.session.specs.History.{Given, given}

-- the bytes from `start` to `end`, and none where these are no part of the slice
unfoldable pub between : ℕ → ℕ → List ℕ → List ℕ
between start end xs = cond (leb start end && leb end (length xs)) (take (end - start) (drop start xs)) []

-- each with its tag; where a tag lacks it is 0
abbrev pub messages_in : List ℕ → ℕ → List ℕ → List ℕ → List Given
messages_in xs start [] tags = []
messages_in xs start (end ∷ ends) tags = given (between start end xs) (first tags) ∷ messages_in xs end ends (rest tags)

-- the last of a list, and `a` where there is none
abbrev pub last_or : Answer → List Answer → Answer
last_or a [] = a
last_or a (b ∷ l) = last_or b l
