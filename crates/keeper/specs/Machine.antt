-- For contracts only. What a keeper makes of its buffer, on any bytes, and what one step of a session with a keeper makes of both.
-- Nobody has to believe this file: the list theorem shows that it does what the rules over history say.
use Rattle.std.specs.Prelude.{ℕ, ◌+◌, List, [], cond, eqb, length, Some, None}
use Rattle.std.proofs.lemmas.List.Edits.{sets}
use Rattle.session.specs.declared.Place.{Place}
use Rattle.session.specs.declared.Place.TheVariants.{Idle, Transaction, Block}
use Rattle.session.specs.Answers.{Answer}
use Rattle.session.specs.Answers as answer
use Rattle.session.specs.declared.Session.{Session}
use Rattle.session.specs.Events.{Event}
use Rattle.session.specs.Rules.{accepts, Heard, unread, heard, hears}
use Rattle.session.specs.Machine.{version_in, place_in, head_in, answer_of, stored_of}
use Rattle.keeper.specs.declared.Reply.{Reply}
use Rattle.keeper.specs.declared.Deed.{Deed}
use Rattle.keeper.specs.declared.Deed.TheVariants as deed
use Rattle.keeper.specs.Rules.{kept, Doing, nothing, keeps, frees, drops, doing, record_of, laid, Space, ruled, Outcome}
use Rattle.keeper.specs.Records.{Hold, hold, taken, removed}

-- what the code hands on
abbrev pub deed_of : Deed → Doing
deed_of deed.Nothing = nothing
deed_of (deed.Keeps own) = keeps own
deed_of (deed.Frees x) = frees x
deed_of (deed.Drops x sub) = drops x sub

-- A BUFFER AFTER A MESSAGE

-- a record behind what is held
abbrev pub appended : Place → ℕ → List ℕ → Hold → Hold
appended Idle own xs b = b
appended (Transaction lsn) own xs b = b
appended (Block x) own xs b = hold (sets b.buffer b.held (record_of (kept x own xs))) (b.held + (14 + length xs))

abbrev pub hold_after : Doing → Place → List ℕ → Hold → Hold
hold_after nothing p xs b = b
hold_after (keeps own) p xs b = appended p own xs b
hold_after (frees x) p xs b = removed x None b
hold_after (drops x sub) p xs b = removed x (cond (eqb x sub) None (Some sub)) b

-- the records that a message releases
abbrev pub released_from : Doing → Hold → List ℕ
released_from nothing b = []
released_from (keeps own) b = []
released_from (frees x) b = taken x None b
released_from (drops x sub) b = []

abbrev pub space_in : Hold → ℕ → Doing → Space
space_in b n d = record { room = length b.buffer; held = b.held; output = n; released = length (released_from d b) }

-- A REPLY: an answer, and how many bytes are released
abbrev pub reply : Answer → ℕ → Reply
reply a released = record { answer = a; released = released }

-- A STEP: the session after it, and what the message got and left
pub record After : Type 0 where
  pub session : Session
  pub outcome : Outcome

abbrev pub after : Session → Reply → List ℕ → Hold → After
after s r output b =
    record { session = s; outcome = record { answer = r.answer; released = r.released; output = output; buffer = b.buffer; held = b.held } }

-- where session and keeper accept, both store; else everything is left as it was
abbrev pub settled : Session → Hold → List ℕ → Event → List ℕ → ℕ → Place → Answer → After
settled s b out e xs g p a =
    cond (accepts a)
    (after (stored_of s e g) (reply a (length (released_from (doing e) b))) (laid (released_from (doing e) b) out) (hold_after (doing e) p xs b))
    (after s (reply a 0) out b)

abbrev pub event_after : Session → Hold → List ℕ → Event → List ℕ → ℕ → After
event_after s b out e xs g =
    let p = place_in (head_in s.head) in
    settled s b out e xs g p (ruled (space_in b (length out) (doing e)) (doing e) p (length xs) (answer_of s e))

abbrev pub heard_after : Session → Hold → List ℕ → Heard → List ℕ → ℕ → After
heard_after s b out (unread n o) xs g = after s (reply (answer.Refused n o) 0) out b
heard_after s b out (heard e) xs g = event_after s b out e xs g

unfoldable pub step_of : Session → Hold → List ℕ → List ℕ → ℕ → After
step_of s b out xs g = heard_after s b out (hears (version_in (head_in s.head)) (place_in (head_in s.head)) xs) xs g
