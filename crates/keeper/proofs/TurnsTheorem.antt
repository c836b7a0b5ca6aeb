-- ORDER OF TURNS (request 105), with a keeper: the statement is `Turns`, in specs.
use Prim.Native.Nat.{ℕ, ◌≤◌}
use native.Mathlib.Omega.{arith}
use mathlib.Core.Path.{◌≡◌, refl, sym, ◌∙◌, ap, ap₂}
use mathlib.Core.List.{List, [], ◌∷◌, ◌++◌, map}
use mathlib.Core.Bool.{Bool, true, false, cond, ◌&&◌}
use lib.ListN.{length}
use Rattle.message.specs.declared.Version.{Version}
use Rattle.session.specs.Answers.{Answer}
use Rattle.session.specs.Events.{Event}
use Rattle.session.specs.History.{Given, given, entry, History, place}
use Rattle.session.specs.Rules.{rooms, judge, accepts, Heard, unread, heard, hears, version_of}
use Rattle.session.specs.Machine.{start_of}
use Rattle.session.specs.Turns.{gets_after, all_accepted}
use Rattle.session.proofs.Stays.{Turn}
use Rattle.session.proofs.Turns.{Way, all_taken, next, get_all, either_order}
use Rattle.keeper.specs.Rules.{Kept, kept_in, records_of, sizes, laid, Call, call, answer_to, released_to, history_after, outcomes}
use Rattle.keeper.specs.Records.{hold}
use Rattle.keeper.specs.Runs.{run}
use Rattle.keeper.specs.Turns.{given_of, Got, gotten, answer_of, gets, Turns}
use Rattle.keeper.proofs.ListTheorem.{keeper_outcomes}
use Rattle.keeper.proofs.Alike.{Alike, alike_after, alike_released, alike_judged, turn_releases, alike_blocks}
use Rattle.keeper.proofs.Rooms.{session-accepts, accepted_is, fitted_after, fitted_before, fitting_taken, still_fits, laid-length}

-- THE KEEPER'S WAY OF JUDGING, with a buffer of `room` bytes

abbrev got : Answer → List Kept → List ℕ → Got
got a ks out = record { answer = a; released = sizes ks; output = laid (records_of ks) out }

module _ (room : ℕ) where
  abbrev gets_at : History → Heard → Call → Got
  gets_at h m (call (given xs g) out) = got (answer_to room (length out) h m xs) (released_to room (length out) h m xs) out

  abbrev taken : Got → Bool
  taken g = accepts g.answer

  unread_not : (h : History) (n o : ℕ) (c : Call) → taken (gets_at h (unread n o) c) ≡ false
  unread_not h n o (call (given xs g) out) = refl

  accepted : (h : History) (e : Event) (c : Call) → taken (gets_at h (heard e) c) ≡ true → accepts (judge rooms h e) ≡ true
  accepted h e (call (given xs g) out) ok = session-accepts room (length out) h e xs ok

  -- of a message in a block that is accepted
  says : (x : ℕ) (h : History) (e : Event) (xs : List ℕ) (g : ℕ) (out : List ℕ) → Turn x h e → taken (gets_at h (heard e) (call (given xs g) out)) ≡ true
      → gets_at h (heard e) (call (given xs g) out) ≡ got (judge rooms h e) [] out
  says x h e xs g out t ok =
      let r : released_to room (length out) h (heard e) xs ≡ [] = rw ok (turn_releases x h t (kept_in h)) in
      ap₂ (λ (a : Answer) (ks : List Kept). got a ks out) (accepted_is room (length out) h e xs ok) r

  same : (x : ℕ) (h k : History) (e : Event) (c : Call) → Turn x h e → Turn x k e → taken (gets_at h (heard e) c) ≡ true → taken (gets_at k (heard e) c) ≡ true
      → judge rooms h e ≡ judge rooms k e → gets_at h (heard e) c ≡ gets_at k (heard e) c
  same x h k e (call (given xs g) out) t u i j s = says x h e xs g out t i ∙ ap (λ (a : Answer). got a [] out) s ∙ sym (says x k e xs g out u j)

  like_gets : (h k : History) → Alike h k → (m : Heard) (c : Call) → gets_at h m c ≡ gets_at k m c
  like_gets h k a (unread n o) (call (given xs g) out) = refl
  like_gets h k a (heard e) (call (given xs g) out) = λ i.
      let y = alike_judged a e xs room (length out) i in
      got y (cond (accepts y) (alike_released a e xs i) []) out

  like_after : (h k : History) → Alike h k → (e : Event) (c : Call) → Alike (entry e (given_of c) ∷ h) (entry e (given_of c) ∷ k)
  like_after h k a e (call (given xs g) out) = alike_after a e xs g

  -- what is kept fits the buffer
  abbrev Fits : History → Type 0
  Fits h = sizes (kept_in h) ≤ room

  takes : (x : ℕ) (h : History) (e : Event) (c : Call) → Turn x h e → accepts (judge rooms h e) ≡ true → Fits (entry e (given_of c) ∷ h) → taken (gets_at h (heard e) c) ≡ true
  takes x h e (call (given xs g) out) t ok f = fitting_taken room (length out) x h e xs g t ok f

  fits_after : (h : History) (e : Event) (c : Call) → taken (gets_at h (heard e) c) ≡ true → Fits h → Fits (entry e (given_of c) ∷ h)
  fits_after h e (call (given xs g) out) ok f = fitted_after room (length out) h e xs g ok f

  fits_before : (x : ℕ) (h : History) (e : Event) (g : Given) → Turn x h e → Fits (entry e g ∷ h) → Fits h
  fits_before x h e (given xs g) t f = fitted_before room x h e xs g t f

  abbrev keeping : Way
  keeping = record {
    Item = Call;
    Gets = Got;
    given_of = given_of;
    gets = gets_at;
    taken = taken;
    Like = Alike;
    Fits = Fits;
    unread_not = unread_not;
    accepted = accepted;
    takes = takes;
    same = same;
    like_place = λ h k a. a.told.at;
    like_gets = like_gets;
    like_after = like_after;
    like_blocks = alike_blocks;
    fits-none = omega arith;
    fits_after = fits_after;
    fits_before = fits_before;
    fits_like = λ h k a f. omega (arith, a.held, f);
  }

  same_next : (h : History) (m : Heard) (xs : List ℕ) (g : ℕ) (out : List ℕ) → next keeping h m (call (given xs g) out) ≡ history_after room (length out) h m xs g
  same_next h (unread n o) xs g out = refl
  same_next h (heard e) xs g out = refl

  same_taken : (l : List Got) → all_taken keeping l ≡ all_accepted (map answer_of l)
  same_taken [] = refl
  same_taken (g ∷ l) = ap (λ (b : Bool). accepts g.answer && b) (same_taken l)

-- with no buffer: the room is its length, and stays it
same_all : (v : Version) (room : ℕ) (l : List Call) (buffer : List ℕ) (h : History) → length buffer ≡ room → sizes (kept_in h) ≤ room
    → map gotten (outcomes v buffer h l) ≡ get_all (keeping room) v h l
unfolding outcomes get_all
same_all v room [] buffer h e f = refl
same_all v room (call (given xs g) out ∷ l) buffer h e f =
    let m = hears v (place h) xs in
    let k = history_after (length buffer) (length out) h m xs g in
    let fits : sizes (kept_in k) ≤ length buffer = still_fits (length buffer) (length out) h m xs g (omega arith) in
    ap₂ (λ (o : Got) (t : List Got). o ∷ t)
    (ap (λ (r : ℕ). gets_at r h m (call (given xs g) out)) e)
    (same_all v room l (laid (records_of (kept_in k)) buffer) k (laid-length (kept_in k) buffer fits ∙ e) (omega arith)
    ∙ ap (λ (j : History). get_all (keeping room) v j l) (ap (λ (r : ℕ). history_after r (length out) h m xs g) e ∙ sym (same_next room h m xs g out)))

pub turns : Turns
unfolding gets
turns start buffer buffer' e x y d before one two after b c p =
    either_order (keeping room) (version_of start) (gets start buffer) (gets start buffer') (is buffer refl) (is buffer' (sym e)) x y d before one two after b c
    (same_taken room (gets_after (gets start buffer) before (one ++ two)) ∙ p)
  where
    room : ℕ
    room = length buffer

    is : (b : List ℕ) → length b ≡ room → (l : List Call) → map gotten (run (start_of start) (hold b 0) l) ≡ get_all (keeping room) (version_of start) [] l
    is b e l = ap (map gotten) (keeper_outcomes start b l) ∙ same_all (version_of start) room l b [] e (omega arith)
