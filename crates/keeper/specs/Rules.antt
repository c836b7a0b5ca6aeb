-- To be believed (demand 3 with a keeper). THE KEEPER'S RULES (request 101), over history and the message alone: no buffer is read here.
use Rattle.std.specs.Prelude.{ℕ, ◌+◌, List, [], ◌∷◌, ◌++◌, Bool, cond, not, ◌&&◌, eqb, leb, length, drop}
use Rattle.wire.specs.Lists.{keep}
use Rattle.message.specs.declared.Version.{Version}
use Rattle.message.specs.Encode.{digits}
use Rattle.session.specs.declared.Place.{Place}
use Rattle.session.specs.declared.Place.TheVariants.{Idle, Transaction, Block}
use Rattle.session.specs.Answers.{Answer}
use Rattle.session.specs.Answers as answer
use Rattle.session.specs.Events.{Event, Begin, Commit, Origin, Relation, Change, Truncate, Neutral, Logical, StreamStart, StreamStop, StreamCommit, StreamAbort}
use Rattle.session.specs.History.{History, Given, given, entry, place}
use Rattle.session.specs.Rules.{rooms, test, judge, accepts, Heard, unread, heard, hears}

-- WHAT IS KEPT

-- a change accepted in a block: the block's xid (top), the xid that the message carries (own), and the message's bytes
pub data Kept : Type 0 where
  kept : (top own : ℕ) (bytes : List ℕ) → Kept

-- kept in transaction x; kept in it under exactly the xid `sub`
abbrev pub is_of : ℕ → Kept → Bool
is_of x (kept top own xs) = eqb top x

abbrev pub is_under : ℕ → ℕ → Kept → Bool
is_under x sub (kept top own xs) = eqb own sub && eqb top x

abbrev pub without : (Kept → Bool) → List Kept → List Kept
without p ks = keep (λ k. not (p k)) ks

-- WHAT A MESSAGE DOES to what is kept: nothing; an I, U, D or T, under its own xid, is kept; c frees what x kept; A drops of x what `sub` names
pub data Doing : Type 0 where
  nothing : Doing
  keeps : (own : ℕ) → Doing
  frees : (x : ℕ) → Doing
  drops : (x sub : ℕ) → Doing

abbrev pub doing : Event → Doing
doing (Begin lsn x) = nothing
doing (Commit lsn) = nothing
doing Origin = nothing
doing (Relation o i c) = nothing
doing (Change own o ts) = keeps own
doing (Truncate own os) = keeps own
doing Neutral = nothing
doing (Logical v) = nothing
doing (StreamStart x first) = nothing
doing StreamStop = nothing
doing (StreamCommit x) = frees x
doing (StreamAbort x sub) = drops x sub

-- a change joins at the end, in a block only
abbrev pub joined : Place → ℕ → List ℕ → List Kept → List Kept
joined Idle own xs ks = ks
joined (Transaction lsn) own xs ks = ks
joined (Block x) own xs ks = ks ++ (kept x own xs ∷ [])

-- what an A drops: all of x where it ends x, else what x kept under exactly `sub`
abbrev pub is_dropped : ℕ → ℕ → Kept → Bool
is_dropped x sub k = cond (eqb x sub) (is_of x k) (is_under x sub k)

abbrev pub kept_after : Doing → Place → List ℕ → List Kept → List Kept
kept_after nothing p xs ks = ks
kept_after (keeps own) p xs ks = joined p own xs ks
kept_after (frees x) p xs ks = without (is_of x) ks
kept_after (drops x sub) p xs ks = without (is_dropped x sub) ks

-- what history keeps, in arrival order
abbrev pub kept_in : History → List Kept
kept_in [] = []
kept_in (entry e (given xs g) ∷ h) = kept_after (doing e) (place h) xs (kept_in h)

-- what a message releases: c what its transaction kept, in arrival order
abbrev pub released_by : Doing → List Kept → List Kept
released_by nothing ks = []
released_by (keeps own) ks = []
released_by (frees x) ks = keep (is_of x) ks
released_by (drops x sub) ks = []

-- AS BYTES

-- a record: the mark C3 4D, top xid, own xid, length 32, message bytes
unfoldable pub record_of : Kept → List ℕ
record_of (kept top own xs) = 0xC3 ∷ 0x4D ∷ (digits 4 top ++ (digits 4 own ++ (digits 4 (length xs) ++ xs)))

-- packed, one after the other
abbrev pub records_of : List Kept → List ℕ
records_of [] = []
records_of (k ∷ ks) = record_of k ++ records_of ks

-- a record has 14 + n bytes, and how many they have in all
abbrev pub size : Kept → ℕ
size (kept top own xs) = 14 + length xs

abbrev pub sizes : List Kept → ℕ
sizes [] = 0
sizes (k ∷ ks) = size k + sizes ks

-- bytes at the start of a buffer, whose rest is as it was
abbrev pub laid : List ℕ → List ℕ → List ℕ
laid bs buffer = bs ++ drop (length bs) buffer

-- THE RULES

-- what they look at: how long the keeper's buffer is, and how many bytes are held; how long the output is, and how many bytes a message would release
pub record Space : Type 0 where
  pub room : ℕ
  pub held : ℕ
  pub output : ℕ
  pub released : ℕ

-- a change of n bytes in a block: 14 exactly when the held bytes and its record exceed the buffer
abbrev pub rule_room : Space → Place → ℕ → Answer → Answer
rule_room s Idle n a = a
rule_room s (Transaction lsn) n a = a
rule_room s (Block x) n a = test (leb (s.held + (14 + n)) s.room) 14 a

-- of a message of n bytes that the session accepts with `a`: c gets 13 where the output is too short
abbrev pub rule_keeper : Space → Doing → Place → ℕ → Answer → Answer
rule_keeper s nothing p n a = a
rule_keeper s (keeps own) p n a = rule_room s p n a
rule_keeper s (frees x) p n a = test (leb s.released s.output) 13 a
rule_keeper s (drops x sub) p n a = a

-- THE JUDGEMENT: the session's (7 to 12), and where that accepts, the keeper's
abbrev pub ruled : Space → Doing → Place → ℕ → Answer → Answer
ruled s d p n a = cond (accepts a) (rule_keeper s d p n a) a

-- by what was accepted before it, with a buffer of `room` and an output of `n` bytes
abbrev pub space_of : ℕ → ℕ → Doing → List Kept → Space
space_of room n d ks = record { room = room; held = sizes ks; output = n; released = sizes (released_by d ks) }

abbrev pub judge_kept : ℕ → ℕ → History → Event → List ℕ → Answer
judge_kept room n h e xs = ruled (space_of room n (doing e) (kept_in h)) (doing e) (place h) (length xs) (judge rooms h e)

-- A LIST

-- a message as it is given, and the output lent for it
pub data Call : Type 0 where
  call : (given : Given) (output : List ℕ) → Call

-- what it gets, and what it leaves: its answer, and how many bytes it released; the output; the keeper's buffer, and how many bytes are held there
pub record Outcome : Type 0 where
  pub answer : Answer
  pub released : ℕ
  pub output : List ℕ
  pub buffer : List ℕ
  pub held : ℕ

-- with the history after it: the buffer has the records that are kept, the output those that were released; each has its old rest
abbrev pub outcome : Answer → List Kept → List ℕ → List ℕ → History → Outcome
outcome a released out buffer h = record {
  answer = a;
  released = sizes released;
  output = laid (records_of released) out;
  buffer = laid (records_of (kept_in h)) buffer;
  held = sizes (kept_in h);
}

-- a refused message changes nothing
abbrev pub answer_to : ℕ → ℕ → History → Heard → List ℕ → Answer
answer_to room n h (unread k o) xs = answer.Refused k o
answer_to room n h (heard e) xs = judge_kept room n h e xs

abbrev pub released_to : ℕ → ℕ → History → Heard → List ℕ → List Kept
released_to room n h (unread k o) xs = []
released_to room n h (heard e) xs = cond (accepts (judge_kept room n h e xs)) (released_by (doing e) (kept_in h)) []

abbrev pub history_after : ℕ → ℕ → History → Heard → List ℕ → ℕ → History
history_after room n h (unread k o) xs g = h
history_after room n h (heard e) xs g = cond (accepts (judge_kept room n h e xs)) (entry e (given xs g) ∷ h) h

-- THE OUTCOMES of a list of messages, each with its output, where the buffer is handed back as it was left
unfoldable pub outcomes : Version → List ℕ → History → List Call → List Outcome
outcomes v buffer h [] = []
outcomes v buffer h (call (given xs g) out ∷ l) =
    let m = hears v (place h) xs in
    let room = length buffer in
    let n = length out in
    let after = history_after room n h m xs g in
    let o = outcome (answer_to room n h m xs) (released_to room n h m xs) out buffer after in
    o ∷ outcomes v o.buffer after l
