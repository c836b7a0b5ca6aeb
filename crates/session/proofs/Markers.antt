-- A logical message (M) leaves no trace: whatever it is answered, every later message is answered as if it had not been given. Assumes nothing.
use Prim.Native.Nat.{ℕ}
use mathlib.Core.Path.{◌≡◌, refl, sym, ◌∙◌}
use mathlib.Core.List.{List, [], ◌∷◌, ◌++◌}
use mathlib.Core.Bool.{Bool, true, false, cond}
use Rattle.message.specs.declared.Version.{Version}
use Rattle.session.specs.Events.{Logical}
use Rattle.session.specs.History.{Given, given, entry, History, place}
use Rattle.session.specs.Rules.{rooms, judge, accepts, heard, hears, history_after, history_by, answers, past, Start, version_of}
use Rattle.session.specs.State.{State, sorted}
use Rattle.session.specs.Machine.{start_of}
use Rattle.session.specs.Runs.{run, after}
use Rattle.session.proofs.Lawful.{sorted_lawful}
use Rattle.session.proofs.Agreement.{kept}
use Rattle.session.proofs.Runs.{Agrees, says, layout-run}
use Rattle.session.proofs.ListTheorem.{agrees_always, after-answers}

-- the state that agrees with a history agrees with it after an M too
module _ (v : Version) (s : State) (h : History) (a : Agrees s h) (b : Bool) (g : Given) (m : List Given) where
  marked : (c : Bool) → accepts (judge rooms h (Logical b)) ≡ c → answers v (cond c (entry (Logical b) g ∷ h) h) m ≡ answers v h m
  marked true ok =
      sym (layout-run sorted sorted_lawful v m s (entry (Logical b) g ∷ h) (kept sorted sorted_lawful s h a (Logical b) g tt ok))
      ∙ layout-run sorted sorted_lawful v m s h a
  marked false ok = refl

past-last : (v : Version) (l : List Given) (h : History) (xs : List ℕ) (g : ℕ)
    → past v h (l ++ given xs g ∷ []) ≡ history_after rooms (past v h l) (hears v (place (past v h l)) xs) (given xs g)
unfolding history_by
past-last v [] h xs g = refl
past-last v (given ys t ∷ l) h xs g = past-last v l (history_after rooms h (hears v (place h) ys) (given ys t)) xs g

-- However the session starts, whatever the list `l` before the M: the record that both leave answers every further list as the record that `l` leaves.
pub marker_leaves : (start : Start) (l : List Given) (xs : List ℕ) (g : ℕ) (b : Bool) → hears (version_of start) (place (past (version_of start) [] l)) xs ≡ heard (Logical b)
    → (m : List Given) → run (after (start_of start) (l ++ given xs g ∷ [])) m ≡ run (after (start_of start) l) m
marker_leaves start l xs g b e m =
    let v = version_of start in
    let h = past v [] l in
    after-answers start (l ++ given xs g ∷ []) m
    ∙ rw (past-last v l [] xs g, e) (marked v (says (after (start_of start) l)) h (agrees_always start l) b (given xs g) m (accepts (judge rooms h (Logical b))) refl)
    ∙ sym (after-answers start l m)
