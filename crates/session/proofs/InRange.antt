-- DEMAND 1: a session's refusals are in range. Assumes nothing.
use Prim.Native.Nat.{ℕ, ◌≤◌}
use mathlib.Core.List.{List, [], ◌∷◌}
use mathlib.Core.Bool.{Bool, true, false, cond, not, ◌||◌, ◌&&◌}
use mathlib.Core.Path.{◌≡◌, refl}
use native.Mathlib.Omega.{arith}
use lib.ListN.{length}
use lib.Dec.{eqb, leb}
use Rattle.message.specs.declared.Version.{Version}
use Rattle.message.specs.Messages.{Read}
use Rattle.std.specs.Prelude.{Ok, Err}
use Rattle.message.specs.Messages.{read_message}
use Rattle.message.proofs.InRange.{InRange, read_in_range}
use Rattle.session.specs.declared.Place.{Place}
use Rattle.std.specs.Prelude.{Ok, Err}
use Rattle.session.specs.Answers.{Answer}
use Rattle.session.specs.Answers as answer
use Rattle.session.specs.declared.Session.{Session}
use Rattle.session.specs.Events.{Event, Begin, Commit, Origin, Relation, Change, Truncate, Neutral, Logical, StreamStart, StreamStop, StreamCommit, StreamAbort, Tuple}
use Rattle.session.specs.History.{Given, given, History, place, Announced, unannounced, announced, is_idle, in_transaction, in_block, final_lsn, is_announced, holder_at}
use Rattle.session.specs.Rules.{sight_of, Rooms, rooms, Sight, refuse, test, all_fit, shaped, all_seen, first_seen, visible, judge_by, Heard, unread, heard, heard_of, hears, answer_to, history_after, answers_by, answers}
use Rattle.session.specs.Machine.{version_in, parts_of, shows, heard_step, step_of}
use Rattle.session.specs.Runs.{run}

-- an answer to a message: where it is a refusal it is numbered 1 to 12, at an offset that is at most the message's length
abbrev pub Answered : Given → Answer → Type 0
Answered (given xs g) a = (n o : ℕ) → a ≡ answer.Refused n o → InRange 12 (length xs) n o

-- each message has its answer, and no answer is without a message
abbrev pub EachAnswered : List Given → List Answer → Type 0
EachAnswered [] [] = Unit {0}
EachAnswered [] (a ∷ r) = ⊥
EachAnswered (m ∷ l) [] = ⊥
EachAnswered (m ∷ l) (a ∷ r) = Answered m a × EachAnswered l r

-- THE RULES' ANSWERS to any list of messages, by any history, under any version
abbrev pub AnswersInRange : Type 0
AnswersInRange = (v : Version) (h : History) (l : List Given) → EachAnswered l (answers v h l)

-- A SESSION'S, from any record, made-up ones too
abbrev pub RunInRange : Type 0
RunInRange = (s : Session) (l : List Given) → EachAnswered l (run s l)

-- ONE ANSWER

abbrev Told : ℕ → Answer → Type 0
Told end (Ok c) = Unit {0}
Told end (Err r) = InRange 12 end r.number r.offset

module _ (end : ℕ) where
  refuse-told : (n : ℕ) → 1 ≤ n → n ≤ 12 → Told end (refuse n)
  refuse-told n h i = record { from_one = h; to_last = i; inside = omega arith }

  -- the first test of a rule, and what follows it
  placed-told : (t : Bool) (a : Answer) → Told end a → Told end (test t 7 a)
  placed-told true a f = f
  placed-told false a f = refuse-told 7 (omega arith) (omega arith)

  test-told : (t : Bool) (n : ℕ) → 1 ≤ n → n ≤ 12 → Told end (test t n answer.Accepted)
  test-told true n h i = tt
  test-told false n h i = refuse-told n h i

  open_told : (t : Bool) → Told end (test t 8 answer.Accepted)
  open_told t = test-told t 8 (omega arith) (omega arith)

  room-told : (t u : Bool) → Told end (test t 8 (test u 12 answer.Accepted))
  room-told true u = test-told u 12 (omega arith) (omega arith)
  room-told false u = refuse-told 8 (omega arith) (omega arith)

  shaped-told : (a : Announced) (ts : List Tuple) → Told end (shaped a ts)
  shaped-told unannounced ts = refuse-told 9 (omega arith) (omega arith)
  shaped-told (announced g i c) ts = go (all_fit i c ts)
    where
      go : (t : Bool) → Told end (test t 10 (answer.Change g i c))
      go true = tt
      go false = refuse-told 10 (omega arith) (omega arith)

  seen_told : (t : Bool) (a : Announced) → Told end (test t 9 (shaped a []))
  seen_told true a = shaped-told a []
  seen_told false a = refuse-told 9 (omega arith) (omega arith)

  judged-told : (r : Rooms) (s : Sight) (e : Event) → Told end (judge_by r s e)
  judged-told r s (Begin lsn x) = placed-told (is_idle s.place) (test (not (s.opened x)) 8 answer.Accepted) (open_told (not (s.opened x)))
  judged-told r s (Commit lsn) = let t = eqb lsn (final_lsn s.place) in placed-told (in_transaction s.place) (test t 8 answer.Accepted) (open_told t)
  judged-told r s Origin = placed-told (not (is_idle s.place) && not (s.changed (holder_at s.place))) answer.Accepted tt
  judged-told r s (Relation o i c) =
      let t = is_announced (s.latest (holder_at s.place) o) || not (leb r.announcements s.live_count) in
      placed-told (not (is_idle s.place)) (test t 11 answer.Accepted) (test-told t 11 (omega arith) (omega arith))
  judged-told r s (Change x o ts) = placed-told (not (is_idle s.place)) (shaped (visible s o) ts) (shaped-told (visible s o) ts)
  judged-told r s (Truncate x os) =
      let t = all_seen (visible s) os in
      let a = first_seen (visible s) os in
      placed-told (not (is_idle s.place)) (test t 9 (shaped a [])) (seen_told t a)
  judged-told r s Neutral = placed-told (not (is_idle s.place)) answer.Accepted tt
  judged-told r s (Logical v) = placed-told (not (is_idle s.place) || not v) answer.Accepted tt
  judged-told r s (StreamStart x first) =
      let t = cond first (not (s.opened x)) (s.opened x) in
      let u = not (first && leb r.streams s.open_count) in
      placed-told (is_idle s.place) (test t 8 (test u 12 answer.Accepted)) (room-told t u)
  judged-told r s StreamStop = placed-told (in_block s.place) answer.Accepted tt
  judged-told r s (StreamCommit x) = placed-told (is_idle s.place) (test (s.opened x) 8 answer.Accepted) (open_told (s.opened x))
  judged-told r s (StreamAbort x sub) = placed-told (is_idle s.place) (test (s.opened x) 8 answer.Accepted) (open_told (s.opened x))

-- WHAT IS HEARD of bytes

abbrev HeardIn : List ℕ → Heard → Type 0
HeardIn xs (unread n o) = InRange 12 (length xs) n o
HeardIn xs (heard e) = Unit {0}

hears-told : (v : Version) (p : Place) (xs : List ℕ) → HeardIn xs (hears v p xs)
hears-told v p xs = go (read_message v (in_block p) xs) refl
  where
    go : (r : Read) → read_message v (in_block p) xs ≡ r → HeardIn xs (heard_of r xs)
    go (Ok m) e = tt
    go (Err r) e =
        let i = read_in_range v (in_block p) xs r.number r.offset e in
        record { from_one = i.from_one; to_last = omega (arith, i.to_last); inside = i.inside }

told : {end : ℕ} (a : Answer) → Told end a → (n o : ℕ) → a ≡ answer.Refused n o → InRange 12 end n o
told a f n o e = rw e at f

-- THE LISTS

pub answers_in_range : AnswersInRange
unfolding answers_by
answers_in_range v h [] = tt
answers_in_range v h (given xs g ∷ l) =
    let m = hears v (place h) xs in
    (told (answer_to rooms h m) (go m (hears-told v (place h) xs)), answers_in_range v (history_after rooms h m (given xs g)) l)
  where
    go : (m : Heard) → HeardIn xs m → Told (length xs) (answer_to rooms h m)
    go (unread n o) i = i
    go (heard e) i = judged-told (length xs) rooms (sight_of h) e

pub run_in_range : RunInRange
unfolding run step_of
run_in_range s [] = tt
run_in_range s (given xs g ∷ l) =
    let m = hears (version_in (parts_of s).head) (shows s).place xs in
    (told (heard_step s m g).answer (go m (hears-told (version_in (parts_of s).head) (shows s).place xs)), run_in_range (heard_step s m g).session l)
  where
    go : (m : Heard) → HeardIn xs m → Told (length xs) (heard_step s m g).answer
    go (unread n o) i = i
    go (heard e) i = judged-told (length xs) rooms (shows s) e
