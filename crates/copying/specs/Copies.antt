-- For contracts only. What a copy leaves in a lent buffer. Where there is no room for the whole, nothing is copied.
use Rattle.std.specs.Prelude.{ℕ, ◌+◌, List, cond, ◌&&◌, leb, length}
use Rattle.std.proofs.lemmas.List.Edits.{sets}
use Rattle.message.specs.Encode.{cut}

-- bytes at the front of a buffer
abbrev pub laid_in : List ℕ → List ℕ → List ℕ
laid_in l xs = cond (leb (length xs) (length l)) (sets l 0 xs) l

-- n bytes of a buffer, from a place to one that is not behind it
abbrev pub moved_down : List ℕ → ℕ → ℕ → ℕ → List ℕ
moved_down l to from n = cond (leb to from && leb (from + n) (length l)) (sets l to (cut l from n)) l
