-- To be believed (demand 3). THE SESSION'S RULES (document 01): the only choice of rule, over what a rule may look at; and the answers to a list of messages, over history.
use Rattle.std.specs.Prelude.{ℕ, List, [], ◌∷◌, Bool, true, cond, not, ◌||◌, ◌&&◌, eqb, leb, is_ok}
use Rattle.message.specs.declared.Version.{Version}
use Rattle.message.specs.Messages.{Read}
use Rattle.std.specs.Prelude.{Ok, Err}
use Rattle.message.specs.Messages.{read_message}
use Rattle.session.specs.declared.Place.{Place}
use Rattle.session.specs.declared.Place.TheVariants.{Idle, Transaction, Block}
use Rattle.session.specs.Answers.{Answer}
use Rattle.session.specs.Answers as answer
use Rattle.session.specs.Events.{Event, Begin, Commit, Origin, Relation, Change, Truncate, Neutral, Logical, StreamStart, StreamStop, StreamCommit, StreamAbort, Tuple, tuple, event_of}
use Rattle.session.specs.History.{Given, given, entry, Announced, unannounced, announced, is_announced, or_else, History, place, is_idle, in_transaction, in_block, final_lsn, holder_at, is_open, open_count, is_changed, latest, live_count}

-- THE ROOMS: how many announcements may be live, and how many streamed transactions open
pub record Rooms : Type 0 where
  pub announcements : ℕ
  pub streams : ℕ

-- a session's
abbrev pub rooms : Rooms
rooms = record { announcements = 256; streams = 16 }

-- A SIGHT: all that a rule may look at. Where the session stands; whether an xid is that of an open streamed transaction, and how many are
-- open; whether a transaction (an xid, or 0 for the one between B and C) had a change; a holder's announcement of an OID, and how many are live
pub record Sight : Type 0 where
  pub place : Place
  pub opened : ℕ → Bool
  pub open_count : ℕ
  pub changed : ℕ → Bool
  pub latest : ℕ → ℕ → Announced
  pub live_count : ℕ

-- what history shows
abbrev pub sight_of : History → Sight
sight_of h = record { place = place h; opened = is_open h; open_count = open_count h; changed = is_changed h; latest = latest h; live_count = live_count h }

-- THE ANNOUNCEMENT that a change at a place sees, where `of t` is what t holds:
-- in T, T's own, else the common one; between B and C, common ones only
abbrev pub visible_at : Place → (ℕ → Announced) → Announced
visible_at Idle of = unannounced
visible_at (Transaction lsn) of = of 0
visible_at (Block x) of = or_else (of x) (of 0)

abbrev pub visible : Sight → ℕ → Announced
visible s oid = visible_at s.place (λ t. s.latest t oid)

-- THE RULES: one for each kind, its tests in the order of the paper's bullet

-- session refusals have offset 0
abbrev pub refuse : ℕ → Answer
refuse n = answer.Refused n 0

-- a test, else a refusal; then the rest of the rule
abbrev pub test : Bool → ℕ → Answer → Answer
test ok n rest = cond ok rest (refuse n)

-- B: idle, else 7. Xid is not an open streamed one, else 8.
abbrev pub rule_begin : Place → Bool → Answer
rule_begin p opened = test (is_idle p) 7 (test (not opened) 8 answer.Accepted)

-- C: in a transaction, else 7. Commit LSN equals that Begin's final LSN, else 8 (HOUSE).
abbrev pub rule_commit : Place → ℕ → Answer
rule_commit p lsn = test (in_transaction p) 7 (test (eqb lsn (final_lsn p)) 8 answer.Accepted)

-- S: idle, else 7. First = 1 needs the xid not open, first = 0 needs it open, else 8. Then 12 if 16 are open and this would be another.
abbrev pub rule_stream_start : Place → Bool → Bool → Bool → Answer
rule_stream_start p first opened full =
    test (is_idle p) 7 (test (cond first (not opened) opened) 8 (test (not (first && full)) 12 answer.Accepted))

-- E: in a block, else 7.
abbrev pub rule_stream_stop : Place → Answer
rule_stream_stop p = test (in_block p) 7 answer.Accepted

-- c and A: idle, else 7. Xid open, else 8.
abbrev pub rule_stream_end : Place → Bool → Answer
rule_stream_end p opened = test (is_idle p) 7 (test opened 8 answer.Accepted)

-- R, Y: in a transaction or block, else 7.
abbrev pub rule_neutral : Place → Answer
rule_neutral p = test (not (is_idle p)) 7 answer.Accepted

-- M (request 104): with flag 0 anywhere; with flag 1, transactional, in a transaction or block, else 7.
abbrev pub rule_logical : Place → Bool → Answer
rule_logical p transactional = test (not (is_idle p) || not transactional) 7 answer.Accepted

-- R then 11: exactly when it would make a 257th pair, so not where its pair is live.
abbrev pub rule_relation : Place → Bool → Bool → Answer
rule_relation p live full = test (not (is_idle p)) 7 (test (live || not full) 11 answer.Accepted)

-- O: in a transaction or block, and before any change accepted in that transaction since it opened, else 7.
abbrev pub rule_origin : Place → Bool → Answer
rule_origin p changed = test (not (is_idle p) && not changed) 7 answer.Accepted

-- a tuple under an announcement: as many columns; `O` (0x4F) only under identity `f` (0x66), and `K` (0x4B) only under another
abbrev pub fits : ℕ → ℕ → Tuple → Bool
fits identity columns (tuple letter count) =
    eqb count columns && (not (eqb letter 0x4F) || eqb identity 0x66) && (not (eqb letter 0x4B) || not (eqb identity 0x66))

abbrev pub all_fit : ℕ → ℕ → List Tuple → Bool
all_fit identity columns [] = true
all_fit identity columns (t ∷ ts) = fits identity columns t && all_fit identity columns ts

-- visible, else 9; then 10 unless every tuple fits
abbrev pub shaped : Announced → List Tuple → Answer
shaped unannounced ts = refuse 9
shaped (announced g i c) ts = test (all_fit i c ts) 10 (answer.Change g i c)

-- I, U, D: in a transaction or block, else 7. Relation visible, else 9. Then 10.
abbrev pub rule_change : Place → Announced → List Tuple → Answer
rule_change p seen ts = test (not (is_idle p)) 7 (shaped seen ts)

-- each OID is visible, by what `see` sees
abbrev pub all_seen : (ℕ → Announced) → List ℕ → Bool
all_seen see [] = true
all_seen see (o ∷ os) = is_announced (see o) && all_seen see os

abbrev pub first_seen : (ℕ → Announced) → List ℕ → Announced
first_seen see [] = unannounced
first_seen see (o ∷ os) = see o

-- T: in a transaction or block, else 7. Each relation visible, else 9. It has no tuples to compare, and answers its first OID's announcement.
abbrev pub rule_truncate : Place → (ℕ → Announced) → List ℕ → Answer
rule_truncate p see os = test (not (is_idle p)) 7 (test (all_seen see os) 9 (shaped (first_seen see os) []))

-- THE JUDGEMENT of a message
abbrev pub judge_by : Rooms → Sight → Event → Answer
judge_by r s (Begin lsn x) = rule_begin s.place (s.opened x)
judge_by r s (Commit lsn) = rule_commit s.place lsn
judge_by r s Origin = rule_origin s.place (s.changed (holder_at s.place))
judge_by r s (Relation o i c) = rule_relation s.place (is_announced (s.latest (holder_at s.place) o)) (leb r.announcements s.live_count)
judge_by r s (Change x o ts) = rule_change s.place (visible s o) ts
judge_by r s (Truncate x os) = rule_truncate s.place (visible s) os
judge_by r s Neutral = rule_neutral s.place
judge_by r s (Logical v) = rule_logical s.place v
judge_by r s (StreamStart x first) = rule_stream_start s.place first (s.opened x) (leb r.streams s.open_count)
judge_by r s StreamStop = rule_stream_stop s.place
judge_by r s (StreamCommit x) = rule_stream_end s.place (s.opened x)
judge_by r s (StreamAbort x sub) = rule_stream_end s.place (s.opened x)

-- by what was accepted before it
abbrev pub judge : Rooms → History → Event → Answer
judge r h e = judge_by r (sight_of h) e

abbrev pub accepts : Answer → Bool
accepts a = is_ok a

-- WHAT IS HEARD of bytes that are read: reading's refusal, with its offset, or the event of a message
pub data Heard : Type 0 where
  unread : (number offset : ℕ) → Heard
  heard : (event : Event) → Heard

abbrev pub heard_of : Read → List ℕ → Heard
heard_of (Err r) xs = unread r.number r.offset
heard_of (Ok m) xs = heard (event_of m xs)

-- a message is read inside a block exactly when the session stands in one
abbrev pub hears : Version → Place → List ℕ → Heard
hears v p xs = heard_of (read_message v (in_block p) xs) xs

abbrev pub answer_to : Rooms → History → Heard → Answer
answer_to r h (unread n o) = answer.Refused n o
answer_to r h (heard e) = judge r h e

-- an accepted message joins history; a refused one leaves no trace
abbrev pub history_after : Rooms → History → Heard → Given → History
history_after r h (unread n o) g = h
history_after r h (heard e) g = cond (accepts (judge r h e)) (entry e g ∷ h) h

-- THE ANSWERS to a list of messages: each is judged by what was accepted before it.
-- Under a version that is not 1 or 2 reading refuses every message with 1 at 0
unfoldable pub answers_by : Rooms → Version → History → List Given → List Answer
answers_by r v h [] = []
answers_by r v h (given xs g ∷ l) =
    let m = hears v (place h) xs in
    answer_to r h m ∷ answers_by r v (history_after r h m (given xs g)) l

-- the history after a list of messages
unfoldable pub history_by : Rooms → Version → History → List Given → History
history_by r v h [] = h
history_by r v h (given xs g ∷ l) = history_by r v (history_after r h (hears v (place h) xs) (given xs g)) l

-- a session's
abbrev pub answers : Version → History → List Given → List Answer
answers v h l = answers_by rooms v h l

abbrev pub past : Version → History → List Given → History
past v h l = history_by rooms v h l

-- HOW A SESSION STARTS: with no version named, or with any number
pub data Start : Type 0 where
  unnamed : Start
  named : ℕ → Start

abbrev pub version_of : Start → Version
version_of unnamed = record { number = 1 }
version_of (named n) = record { number = n }
