-- To be believed (for C). Stepping in numbers: what `kq_column_start` and `kq_column_step` return and fill in.
use Rattle.std.specs.Prelude.{ℕ, List, [], ◌∷◌, cond, eqb, get_or, Option, None, Some, Ok, Err}
use Rattle.message.specs.Messages.{Read}
use Rattle.columns.specs.declared.Position.{Position}
use Rattle.columns.specs.declared.Which.TheVariants.{Old, New}
use Rattle.columns.specs.Starts.{Started, absent}
use Rattle.columns.specs.Steps.{StepAnswer, over, gives, refused, step_at, after}
use Rattle.columns.specs.Visits.{Section, tuple, columns, oids, fields_of, start_of}
use Rattle.capi.specs.Filled.{Filled, filled, padded}

-- the section that has a number
abbrev pub section_of : ℕ → Option Section
section_of n =
    cond (eqb n 0) (Some (tuple New)) (cond (eqb n 1) (Some (tuple Old)) (cond (eqb n 2) (Some columns) (cond (eqb n 3) (Some oids) None)))

-- START

-- a number that is no section: 4 at 0
abbrev pub section_start : Option Section → List ℕ → Read → Started
section_start None xs r = absent
section_start (Some s) xs r = start_of s xs r

-- 0, the first offset and how many are left; or a refusal, its offset and 0
abbrev pub start_numbers : Started → Filled
start_numbers (Ok p) = filled 0 (p.offset ∷ p.left ∷ [])
start_numbers (Err r) = filled r.number (r.offset ∷ 0 ∷ [])

-- A STEP

-- the position that two numbers are
abbrev pub position_in : List ℕ → Position
position_in ps = record { offset = get_or ps 0 0; left = get_or ps 1 0 }

-- what stands at a position; a number that is no section: 4 at 0
abbrev pub standing : Option Section → List ℕ → Position → StepAnswer
standing None xs p = refused 4 0
standing (Some s) xs p = step_at (fields_of s) xs p

-- 0 and the numbers of what was stepped past; 255 where none are left; or a refusal and its offset; and zeros behind
abbrev pub numbers_of : StepAnswer → Filled
numbers_of over = filled 255 (padded 5 [])
numbers_of (gives v e) = filled 0 (padded 5 v)
numbers_of (refused n o) = filled n (padded 5 (o ∷ []))

unfoldable pub step_numbers : ℕ → List ℕ → List ℕ → Filled
step_numbers n xs ps = numbers_of (standing (section_of n) xs (position_in ps))

-- the position's numbers after a step: unless 0 is returned, as they were
abbrev pub moved_by : StepAnswer → List ℕ → List ℕ
moved_by over ps = ps
moved_by (gives v e) ps = let q = after (gives v e) (position_in ps) in q.offset ∷ q.left ∷ []
moved_by (refused n o) ps = ps

unfoldable pub moved_on : ℕ → List ℕ → List ℕ → List ℕ
moved_on n xs ps = moved_by (standing (section_of n) xs (position_in ps)) ps
