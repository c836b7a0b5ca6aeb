-- For contracts only. What a session keeps, in whatever way it lies in its record, and what a message makes of it.
-- Nobody has to believe this file: the list theorem shows that it answers as the rules over history do.
use Rattle.std.specs.Prelude.{ℕ, Bool, true, false, cond, eqb, Option, Some, None}
use Rattle.catalog.specs.declared.announcements.Announcement.{Announcement}
use Rattle.catalog.specs.declared.streams.Streams.{Streams}
use Rattle.catalog.specs.Opens.{fresh_streams, is_open_in, open_count_in, changed_in, open_in, close_in, mark_in}
use Rattle.catalog.specs.Tables.{Table, fresh_table, lookup, used_in, put_in, drop_in, release_in}
use Rattle.session.specs.declared.Place.{Place}
use Rattle.session.specs.declared.Place.TheVariants.{Idle, Transaction, Block}
use Rattle.session.specs.Answers.{Answer}
use Rattle.session.specs.Events.{Event, Begin, Commit, Origin, Relation, Change, Truncate, Neutral, Logical, StreamStart, StreamStop, StreamCommit, StreamAbort}
use Rattle.session.specs.History.{Announced, unannounced, announced, place_after, holder_at}
use Rattle.session.specs.Rules.{Sight, rooms, visible_at, judge_by}

-- what is seen of an announcement that the table finds
abbrev pub announced_by : Option Announcement → Announced
announced_by None = unannounced
announced_by (Some a) = announced a.tag a.identity a.columns

-- a holder's announcement of an OID
abbrev pub held_in : Table → ℕ → ℕ → Announced
held_in r t oid = announced_by (lookup r t oid)

-- A LAYOUT of the announcements: what a table is, and a fresh one; what it has of a holder's announcement of an OID, and how many there are;
-- the table after an announcement, after a holder is gone, and after a holder's have become common
pub record Layout : Type 1 where
  pub Rows : Type 0
  pub none : Rows
  pub find : Rows → ℕ → ℕ → Announced
  pub used : Rows → ℕ
  pub put : Rows → ℕ → ℕ → ℕ → ℕ → ℕ → Rows
  pub discard : Rows → ℕ → Rows
  pub release : Rows → ℕ → Rows

-- the session's: rows sorted by holder and OID
abbrev pub sorted : Layout
sorted = record { Rows = Table; none = fresh_table; find = held_in; used = used_in; put = put_in; discard = drop_in; release = release_in }

-- where the session stands; whether the transaction between B and C had a change; the open streamed transactions; the announcements
pub record StateOf (Rows : Type 0) : Type 0 where
  pub place : Place
  pub changed : Bool
  pub streams : Streams
  pub table : Rows

abbrev pub State : Type 0
State = StateOf Table

abbrev pub fresh_by : (L : Layout) → StateOf L.Rows
fresh_by L = record { place = Idle; changed = false; streams = fresh_streams; table = L.none }

abbrev pub state : Place → Bool → Streams → Table → State
state p b s r = record { place = p; changed = b; streams = s; table = r }

-- THE ANSWER

-- whether a transaction had a change
abbrev pub changed_at : Bool → Streams → ℕ → Bool
changed_at b s t = cond (eqb t 0) b (changed_in s t)

-- what a state shows
abbrev pub sight_by : (L : Layout) → StateOf L.Rows → Sight
sight_by L s = record {
  place = s.place;
  opened = is_open_in s.streams;
  open_count = open_count_in s.streams;
  changed = changed_at s.changed s.streams;
  latest = L.find s.table;
  live_count = L.used s.table;
}

abbrev pub sight_in : State → Sight
sight_in s = sight_by sorted s

-- the announcement that a change at a place sees in the table
abbrev pub visible_in : Place → Table → ℕ → Announced
visible_in p r oid = visible_at p (λ t. held_in r t oid)

abbrev pub answer_by : (L : Layout) → StateOf L.Rows → Event → Answer
answer_by L s e = judge_by rooms (sight_by L s) e

abbrev pub answer_in : State → Event → Answer
answer_in s e = answer_by sorted s e

-- THE STATE AFTER AN ACCEPTED MESSAGE

-- a change between B and C
abbrev pub flagged_at : Place → Bool → Bool
flagged_at Idle b = b
flagged_at (Transaction lsn) b = true
flagged_at (Block x) b = b

abbrev pub flag_after : Event → Place → Bool → Bool
flag_after (Begin lsn x) p b = false
flag_after (Commit lsn) p b = b
flag_after Origin p b = b
flag_after (Relation o i c) p b = b
flag_after (Change x o ts) p b = flagged_at p b
flag_after (Truncate x os) p b = flagged_at p b
flag_after Neutral p b = b
flag_after (Logical v) p b = b
flag_after (StreamStart x first) p b = b
flag_after StreamStop p b = b
flag_after (StreamCommit x) p b = b
flag_after (StreamAbort x sub) p b = b

-- a change in a block
abbrev pub marked_at : Place → Streams → Streams
marked_at Idle s = s
marked_at (Transaction lsn) s = s
marked_at (Block x) s = mark_in s x

abbrev pub streams_after : Event → Place → Streams → Streams
streams_after (Begin lsn x) p s = s
streams_after (Commit lsn) p s = s
streams_after Origin p s = s
streams_after (Relation o i c) p s = s
streams_after (Change x o ts) p s = marked_at p s
streams_after (Truncate x os) p s = marked_at p s
streams_after Neutral p s = s
streams_after (Logical v) p s = s
streams_after (StreamStart x first) p s = cond first (open_in s x) s
streams_after StreamStop p s = s
streams_after (StreamCommit x) p s = close_in s x
streams_after (StreamAbort x sub) p s = cond (eqb x sub) (close_in s x) s

abbrev pub table_by : (L : Layout) → Event → ℕ → Place → L.Rows → L.Rows
table_by L (Begin lsn x) g p r = r
table_by L (Commit lsn) g p r = r
table_by L Origin g p r = r
table_by L (Relation o i c) g p r = L.put r (holder_at p) o g i c
table_by L (Change x o ts) g p r = r
table_by L (Truncate x os) g p r = r
table_by L Neutral g p r = r
table_by L (Logical v) g p r = r
table_by L (StreamStart x first) g p r = r
table_by L StreamStop g p r = r
table_by L (StreamCommit x) g p r = L.release r x
table_by L (StreamAbort x sub) g p r = cond (eqb x sub) (L.discard r x) r

abbrev pub state_by : (L : Layout) → StateOf L.Rows → Event → ℕ → StateOf L.Rows
state_by L s e g = record {
  place = place_after e s.place;
  changed = flag_after e s.place s.changed;
  streams = streams_after e s.place s.streams;
  table = table_by L e g s.place s.table;
}

abbrev pub table_after : Event → ℕ → Place → Table → Table
table_after e g p r = table_by sorted e g p r

abbrev pub state_after : State → Event → ℕ → State
state_after s e g = state_by sorted s e g
