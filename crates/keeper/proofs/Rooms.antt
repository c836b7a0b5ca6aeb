-- What is kept fits the buffer after every message, so the buffer keeps its length and the room stays what it was. Assumes nothing.
use Prim.Native.Nat.{ℕ, ◌+◌, ◌≤◌}
use native.Mathlib.Omega.{arith}
use mathlib.Core.Path.{◌≡◌, refl, ◌∙◌, ap, subst}
use mathlib.Core.List.{List, [], ◌∷◌}
use mathlib.Core.Bool.{Bool, true, false, cond, false≢true}
use borrow.Author.Tests.{leb-true, le-leb}
use lib.Dec.{leb}
use lib.ListN.{length, drop, length-append, length-drop}
use Rattle.session.specs.declared.Place.{Place}
use Rattle.session.specs.declared.Place.TheVariants.{Idle, Transaction, Block}
use Rattle.session.specs.Answers.{Answer}
use Rattle.session.specs.Events.{Event}
use Rattle.session.specs.History.{given, entry, History, place}
use Rattle.session.specs.Rules.{rooms, test, judge, accepts, Heard, unread, heard}
use Rattle.session.proofs.Stays.{Turn, starts, goes}
use Rattle.keeper.specs.Rules.{Kept, kept, is_of, Doing, nothing, keeps, frees, drops, doing, joined, is_dropped, kept_after, kept_in, records_of, sizes, laid, Space, rule_room, rule_keeper, space_of, judge_kept, history_after}
use Rattle.keeper.proofs.Pieces.{length_records}
use Rattle.keeper.proofs.Agreement.{both_accept}
use Rattle.keeper.proofs.Alike.{sizes-append, sizes_split, Quiet, inner_quiet, turn_adds}

passed : (b : Bool) (n : ℕ) (rest : Answer) → accepts (test b n rest) ≡ true → (b ≡ true) × (test b n rest ≡ rest)
passed true n rest ok = (refl, refl)
passed false n rest ok = absurd (false≢true ok)

-- what session and keeper accept has the session's answer
module _ (s : Space) (n : ℕ) (a : Answer) where
  room_says : (p : Place) → accepts (rule_room s p n a) ≡ true → rule_room s p n a ≡ a
  room_says Idle ok = refl
  room_says (Transaction l) ok = refl
  room_says (Block x) ok = (passed (leb (s.held + (14 + n)) s.room) 14 a ok).1

  keeper_says : (d : Doing) (p : Place) → accepts (rule_keeper s d p n a) ≡ true → rule_keeper s d p n a ≡ a
  keeper_says nothing p ok = refl
  keeper_says (keeps own) p ok = room_says p ok
  keeper_says (frees x) p ok = (passed (leb s.released s.output) 13 a ok).1
  keeper_says (drops x sub) p ok = refl

module _ (room n : ℕ) (h : History) (e : Event) (xs : List ℕ) (ok : accepts (judge_kept room n h e xs) ≡ true) where
  abbrev by_keeper : Answer
  by_keeper = rule_keeper (space_of room n (doing e) (kept_in h)) (doing e) (place h) (length xs) (judge rooms h e)

  both : (accepts (judge rooms h e) ≡ true) × (accepts by_keeper ≡ true)
  both = both_accept (judge rooms h e) by_keeper ok

  pub session-accepts : accepts (judge rooms h e) ≡ true
  session-accepts = both.0

  pub accepted_is : judge_kept room n h e xs ≡ judge rooms h e
  accepted_is = rw session-accepts (keeper_says (space_of room n (doing e) (kept_in h)) (length xs) (judge rooms h e) (doing e) (place h) both.1)

-- THE ROOM STAYS

module _ (s : Space) (xs : List ℕ) (ks : List Kept) (a : Answer) (is : s.held ≡ sizes ks) (r : sizes ks ≤ s.room) where
  room_joined : (p : Place) (own : ℕ) → accepts (rule_room s p (length xs) a) ≡ true → sizes (joined p own xs ks) ≤ s.room
  room_joined Idle own ok = r
  room_joined (Transaction l) own ok = r
  room_joined (Block x) own ok =
      omega (arith, sizes-append ks (kept x own xs ∷ []), leb-true (s.held + (14 + length xs)) s.room (passed (leb (s.held + (14 + length xs)) s.room) 14 a ok).0)

  room_after : (d : Doing) (p : Place) → accepts (rule_keeper s d p (length xs) a) ≡ true → sizes (kept_after d p xs ks) ≤ s.room
  room_after nothing p ok = r
  room_after (keeps own) p ok = room_joined p own ok
  room_after (frees x) p ok = omega (arith, sizes_split (is_of x) ks)
  room_after (drops x sub) p ok = omega (arith, sizes_split (is_dropped x sub) ks)

pub fitted_after : (room n : ℕ) (h : History) (e : Event) (xs : List ℕ) (g : ℕ) → accepts (judge_kept room n h e xs) ≡ true → sizes (kept_in h) ≤ room
    → sizes (kept_in (entry e (given xs g) ∷ h)) ≤ room
fitted_after room n h e xs g ok f = room_after (space_of room n (doing e) (kept_in h)) xs (kept_in h) (judge rooms h e) refl f (doing e) (place h) (both room n h e xs ok).1

pub still_fits : (room n : ℕ) (h : History) (m : Heard) (xs : List ℕ) (g : ℕ) → sizes (kept_in h) ≤ room → sizes (kept_in (history_after room n h m xs g)) ≤ room
still_fits room n h (unread k o) xs g f = f
still_fits room n h (heard e) xs g f = go (accepts (judge_kept room n h e xs)) refl
  where
    go : (v : Bool) → accepts (judge_kept room n h e xs) ≡ v → sizes (kept_in (cond v (entry e (given xs g) ∷ h) h)) ≤ room
    go true ok = fitted_after room n h e xs g ok f
    go false ok = f

-- in a block it only fills,
pub fitted_before : (room x : ℕ) (h : History) (e : Event) (xs : List ℕ) (g : ℕ) → Turn x h e → sizes (kept_in (entry e (given xs g) ∷ h)) ≤ room → sizes (kept_in h) ≤ room
fitted_before room x h e xs g t f =
    let k = (turn_adds x h t xs (kept_in h)).0 in
    omega (arith, f, ap sizes k, sizes-append (kept_in h) (kept_after (doing e) (Block x) xs []))

-- and what the session accepts, and then fits, the keeper accepts
quiet_takes : (s : Space) (x : ℕ) (d : Doing) → Quiet d → (xs : List ℕ) (ks : List Kept) (a : Answer) → s.held ≡ sizes ks → sizes (kept_after d (Block x) xs ks) ≤ s.room
    → accepts a ≡ true → accepts (rule_keeper s d (Block x) (length xs) a) ≡ true
quiet_takes s x nothing q xs ks a is f ok = ok
quiet_takes s x (keeps own) q xs ks a is f ok = rw (le-leb (s.held + (14 + length xs)) s.room (omega (arith, sizes-append ks (kept x own xs ∷ [])))) ok
quiet_takes s x (frees y) q xs ks a is f ok = absurd q
quiet_takes s x (drops y sub) q xs ks a is f ok = absurd q

pub fitting_taken : (room n x : ℕ) (h : History) (e : Event) (xs : List ℕ) (g : ℕ) → Turn x h e → accepts (judge rooms h e) ≡ true → sizes (kept_in (entry e (given xs g) ∷ h)) ≤ room
    → accepts (judge_kept room n h e xs) ≡ true
fitting_taken room n x h e xs g (starts p) ok f = rw ok ok
fitting_taken room n x h e xs g (goes p i) ok f =
    let s = space_of room n (doing e) (kept_in h) in
    let there : sizes (kept_after (doing e) (Block x) xs (kept_in h)) ≤ room = subst (λ (q : Place). sizes (kept_after (doing e) q xs (kept_in h)) ≤ room) p f in
    rw ok (ap (λ (q : Place). accepts (rule_keeper s (doing e) q (length xs) (judge rooms h e))) p ∙ quiet_takes s x (doing e) (inner_quiet i) xs (kept_in h) (judge rooms h e) refl there ok)

pub laid-length : (ks : List Kept) (buffer : List ℕ) → sizes ks ≤ length buffer → length (laid (records_of ks) buffer) ≡ length buffer
laid-length ks buffer f =
    let rs = records_of ks in
    omega (arith, length-append rs (drop (length rs) buffer), length-drop (length rs) buffer, length_records ks)
