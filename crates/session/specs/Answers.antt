-- To be believed (demand 3). What a message gets: it is accepted, or refused with a number of the refusal table and an offset. A change is
-- accepted with its announcement's tag, identity and column count.
use Rattle.std.specs.Prelude.{ℕ, Option, Some, None, Result, Ok}
use Rattle.wire.specs.declared.Refusal.{Refusal}
use Rattle.wire.specs.Cursors.{refuse}
use Rattle.catalog.specs.declared.announcements.Announcement.{Announcement}

abbrev pub Answer : Type 0
Answer = Result (Option Announcement) Refusal

abbrev pub Accepted : Answer
Accepted = Ok None

abbrev pub Change : ℕ → ℕ → ℕ → Answer
Change tag identity columns = Ok (Some (record { tag = tag; identity = identity; columns = columns }))

abbrev pub Refused : ℕ → ℕ → Answer
Refused number offset = refuse number offset
