-- For contracts only. The session's record, what one step makes of it, and the record of a fresh session.
-- Nobody has to believe this file: a step of the code equals `step_of`, its start `start_of`, and the list theorem shows what they answer.
use Rattle.std.specs.Prelude.{ℕ, ◌%◌, List, [], ◌∷◌, Bool, cond, not, eqb, leb, replicate, get_or}
use Rattle.message.specs.declared.Version.{Version}
use Rattle.catalog.specs.declared.announcements.Announcements.{Announcements}
use Rattle.catalog.specs.declared.streams.Streams.{Streams}
use Rattle.catalog.specs.Opens.{streams}
use Rattle.catalog.specs.Tables.{Table, table, fresh_arrays}
use Rattle.session.specs.declared.Place.{Place}
use Rattle.session.specs.declared.Place.TheVariants.{Idle, Transaction, Block}
use Rattle.session.specs.Answers.{Answer}
use Rattle.session.specs.Answers as answer
use Rattle.session.specs.declared.Head.{Head}
use Rattle.session.specs.declared.Session.{Session}
use Rattle.session.specs.declared.Stepped.{Stepped}
use Rattle.session.specs.Events.{Event}
use Rattle.session.specs.Rules.{Sight, accepts, Heard, unread, heard, hears, Start, version_of}
use Rattle.session.specs.State.{State, state, sight_in, answer_in, state_after}

-- A PLACE as numbers: phase 1 in a transaction, 2 in a block, else idle
abbrev pub place_of : ℕ → ℕ → ℕ → Place
place_of phase current lsn = cond (eqb phase 1) (Transaction lsn) (cond (eqb phase 2) (Block current) Idle)

abbrev pub phase_of : Place → ℕ
phase_of Idle = 0
phase_of (Transaction lsn) = 1
phase_of (Block x) = 2

-- what a place does not name stays as it was
abbrev pub current_of : Place → ℕ → ℕ
current_of Idle was = was
current_of (Transaction lsn) was = was
current_of (Block x) was = x

abbrev pub lsn_of : Place → ℕ → ℕ
lsn_of Idle was = was
lsn_of (Transaction lsn) was = lsn
lsn_of (Block x) was = was

-- THE HEAD: the record without its arrays
abbrev pub place_in : Head → Place
place_in h = place_of h.phase h.current_xid h.final_lsn

abbrev pub flag_in : Head → Bool
flag_in h = not (eqb h.changed 0)

abbrev pub version_in : Head → Version
version_in h = record { number = h.version }

-- the head that stands at a place, with a change or none, and has so many rows in use
abbrev pub head_at : Head → Place → Bool → ℕ → Head
head_at h p b n = record {
  version = h.version;
  phase = phase_of p;
  current_xid = current_of p h.current_xid;
  final_lsn = lsn_of p h.final_lsn;
  changed = cond b 1 0;
  rows = n;
}

-- THE PARTS of a record: a head, and the arrays of the tables
pub record Parts : Type 0 where
  pub head : Head
  pub streams : Streams
  pub announcements : Announcements

abbrev pub parts : Head → Streams → Announcements → Parts
parts h s a = record { head = h; streams = s; announcements = a }

abbrev pub table_of : Parts → Table
table_of p = table p.head.rows p.announcements

-- what they say
abbrev pub view : Parts → State
view p = state (place_in p.head) (flag_in p.head) p.streams (table_of p)

-- the parts that say something new
abbrev pub written : Parts → State → Parts
written p n = parts (head_at p.head n.place n.changed n.table.count) n.streams n.table.arrays

-- THE RECORD: the head's numbers, in words, and the arrays
abbrev pub session_of : List ℕ → Streams → Announcements → Session
session_of head streams announcements = record { head = head; streams = streams; announcements = announcements }

-- a version that does not fit its number is 0, which is none; of the other words the low bits count
abbrev pub head_in : List ℕ → Head
head_in w = record {
  final_lsn = get_or w 0 0;
  version = cond (leb 4294967296 (get_or w 1 0)) 0 (get_or w 1 0);
  current_xid = get_or w 2 0 % 4294967296;
  phase = get_or w 3 0 % 4294967296;
  changed = get_or w 4 0 % 65536;
  rows = get_or w 5 0 % 65536;
}

-- and back, where the version's word stays
abbrev pub words_of : ℕ → Head → List ℕ
words_of version h = h.final_lsn ∷ version ∷ h.current_xid ∷ h.phase ∷ h.changed ∷ h.rows ∷ []

abbrev pub parts_of : Session → Parts
parts_of s = parts (head_in s.head) s.streams s.announcements

abbrev pub made : ℕ → Parts → Session
made version p = session_of (words_of version p.head) p.streams p.announcements

-- what it shows a rule
abbrev pub shows : Session → Sight
shows s = sight_in (view (parts_of s))

-- A STEP

abbrev pub stepped : Session → Answer → Stepped
stepped s a = record { session = s; answer = a }

-- the answer to an event, and the record that keeps it
abbrev pub answer_of : Session → Event → Answer
answer_of s e = answer_in (view (parts_of s)) e

abbrev pub stored_of : Session → Event → ℕ → Session
stored_of s e g = made (get_or s.head 1 0) (written (parts_of s) (state_after (view (parts_of s)) e g))

abbrev pub event_step : Session → Event → ℕ → Stepped
event_step s e g = let a = answer_of s e in stepped (cond (accepts a) (stored_of s e g) s) a

abbrev pub heard_step : Session → Heard → ℕ → Stepped
heard_step s (unread n o) g = stepped s (answer.Refused n o)
heard_step s (heard e) g = event_step s e g

-- a message's bytes and its tag, given to a session: reading's refusal and a refused message leave it as it was
unfoldable pub step_of : Session → List ℕ → ℕ → Stepped
step_of s xs g = heard_step s (hears (version_in (parts_of s).head) (shows s).place xs) g

-- A START

-- idle, with nothing open and nothing announced
unfoldable pub start_of : Start → Session
start_of s =
    made
    (version_of s).number
    (parts
    (record { version = (version_of s).number; phase = 0; current_xid = 0; final_lsn = 0; changed = 0; rows = 0 })
    (streams (replicate 16 0) (replicate 16 0))
    fresh_arrays)
