-- DEMAND 3: a fresh session answers every list of messages exactly as the rules over history do.
use mathlib.Core.Path.{◌≡◌, refl, sym, ◌∙◌, ap}
use mathlib.Core.List.{List, []}
use mathlib.Core.Bool.{Bool, true, false, cond}
use Prim.Native.Nat.{ℕ, ◌≤◌}
use native.Mathlib.Omega.{arith}
use lib.Dec.{leb}
use borrow.Author.Tests.{le-leb, lt-leb, leb-true}
use Rattle.message.specs.declared.Version.{Version}
use Rattle.message.specs.Versions.{is_known}
use Rattle.catalog.specs.Table.{Sorted}
use Rattle.catalog.specs.Opens.{fresh_streams}
use Rattle.catalog.specs.Tables.{rows_in, fresh_table}
use Rattle.session.specs.declared.Place.{Place}
use Rattle.session.specs.History.{Given}
use Rattle.session.specs.Rules.{sight_of, hears, history_by, answers, past, Start, unnamed, named, version_of}
use Rattle.session.specs.State.{sorted}
use Rattle.session.specs.Machine.{start_of, table_of, parts_of, shows}
use Rattle.session.specs.Runs.{run, after}
use Rattle.session.proofs.Lawful.{sorted_lawful, sorted_sound}
use Rattle.session.proofs.Sights.{Same}
use Rattle.session.proofs.Refusals.{unknown_hears, same_hearing_answers, same_hearing_past}
use Rattle.session.proofs.Agreement.{fresh, same_sight}
use Rattle.session.proofs.Runs.{Agrees, says, version_for, version_after, agree_run, agree_after}

-- A version that does not fit its number in the record is as unknown as the 0 that stands for it
known_not : (n : ℕ) → 4294967296 ≤ n → is_known (record { number = n }) ≡ false
known_not n h = rw (le-leb 1 n (omega arith), lt-leb n 2 (omega arith))

pub start-hears : (start : Start) (p : Place) (xs : List ℕ) → hears (version_for (start_of start)) p xs ≡ hears (version_of start) p xs
unfolding start_of
start-hears unnamed p xs = refl
start-hears (named n) p xs = go (leb 4294967296 n) refl
  where
    go : (v : Bool) → leb 4294967296 n ≡ v → hears (record { number = cond v 0 n }) p xs ≡ hears (record { number = n }) p xs
    go true e = unknown_hears (record { number = 0 }) refl p xs ∙ sym (unknown_hears (record { number = n }) (known_not n (leb-true 4294967296 n e)) p xs)
    go false e = refl

pub starts : (start : Start) → Agrees (says (start_of start)) []
unfolding start_of fresh_streams fresh_table
starts start = fresh sorted sorted_lawful

-- The record that any list leaves agrees with the history of that list,
pub agrees_always : (start : Start) (l : List Given) → Agrees (says (after (start_of start) l)) (past (version_of start) [] l)
agrees_always start l = rw (← same_hearing_past (version_for (start_of start)) (version_of start) (start-hears start) l []) (agree_after l (start_of start) [] (starts start))

-- and answers every further list as the rules do by that history.
pub after-answers : (start : Start) (l m : List Given) → run (after (start_of start) l) m ≡ answers (version_of start) (past (version_of start) [] l) m
after-answers start l m =
    let s = after (start_of start) l in
    agree_run m s (past (version_of start) [] l) (agrees_always start l)
    ∙ same_hearing_answers (version_for s) (version_of start) (λ p xs. ap (λ (v : Version). hears v p xs) (version_after l (start_of start)) ∙ start-hears start p xs) m (past (version_of start) [] l)

-- However the session starts, with no version named or with any number, and whatever the messages are, any bytes with any tags:
-- what the session answers to them, given one at a time to the record as the last one left it (`run`, the fold of `step_of`),
-- is what the rules answer over the list itself (`answers`): to each message by those accepted before it, with no record and no table.
-- An answer is that it is accepted; for a change its announcement's tag, identity and column count; or a refusal's number and offset.
-- Nothing is assumed of the list, of its length or of the version.
pub session-answers : (start : Start) (l : List Given) → run (start_of start) l ≡ answers (version_of start) [] l
unfolding after history_by
session-answers start l = after-answers start [] l

-- The record that any list leaves shows what the history of that list shows: where it stands, what is open, what was changed, what each holder announced, and how many there are.
pub session-shows : (start : Start) (l : List Given) → Same (shows (after (start_of start) l)) (sight_of (past (version_of start) [] l))
session-shows start l = same_sight sorted sorted_lawful (says (after (start_of start) l)) (past (version_of start) [] l) (agrees_always start l)

-- It has its announcements sorted by holder, then OID, each once.
pub sorted_always : (start : Start) (l : List Given) → Sorted (rows_in (table_of (parts_of (after (start_of start) l))))
sorted_always start l = (sorted_sound (table_of (parts_of (after (start_of start) l))) (agrees_always start l).table.sound).rows.sorted
