-- A session and a keeper that agree with history do to every list of messages what the rules say. Assumes nothing.
use Prim.Native.Nat.{ℕ}
use mathlib.Core.Path.{◌≡◌, refl, sym, ◌∙◌, ap, ap₂}
use mathlib.Core.List.{List, [], ◌∷◌}
use mathlib.Core.Bool.{Bool, true, false, cond}
use lib.ListN.{length}
use Rattle.message.specs.declared.Version.{Version}
use Rattle.session.specs.declared.Place.{Place}
use Rattle.session.specs.Answers.{Answer}
use Rattle.session.specs.Answers as answer
use Rattle.session.specs.declared.Session.{Session}
use Rattle.session.specs.Events.{Event}
use Rattle.session.specs.History.{given, entry, History, place}
use Rattle.session.specs.Rules.{accepts, Heard, unread, heard, hears}
use Rattle.session.specs.Machine.{stored_of}
use Rattle.session.proofs.Runs.{says, version_for, Well, hears_well}
use Rattle.keeper.specs.Rules.{Kept, doing, kept_in, released_by, laid, judge_kept, Call, call, Outcome, outcome, answer_to, released_to, history_after, outcomes}
use Rattle.keeper.specs.Records.{Hold, hold}
use Rattle.keeper.specs.Machine.{hold_after, released_from, reply, After, after, settled, heard_after, step_of}
use Rattle.keeper.specs.Runs.{run}
use Rattle.keeper.proofs.Pieces.{length_records}
use Rattle.keeper.proofs.Agreement.{Agrees, same-released, same_answer, version_after, hold-is, kept-after}

-- ONE STEP

abbrev pub gets : Answer → ℕ → List ℕ → List ℕ → ℕ → Outcome
gets y n out buffer held = record { answer = y; released = n; output = out; buffer = buffer; held = held }

module _ (s : Session) (b : Hold) (h : History) (a : Agrees s b h) (xs : List ℕ) (g : ℕ) (out : List ℕ) where
  abbrev room : ℕ
  room = length b.buffer

  -- a step with the answer y that releases ks and leaves the history h'
  abbrev Leads : After → Answer → List Kept → History → Type 0
  Leads t y ks h' =
      (t.outcome ≡ outcome y ks out b.buffer h') × Agrees t.session (hold t.outcome.buffer t.outcome.held) h' × (version_for t.session ≡ version_for s)

  abbrev Follows : After → Heard → Type 0
  Follows t r = Leads t (answer_to room (length out) h r xs) (released_to room (length out) h r xs) (history_after room (length out) h r xs g)

  refused : (y : Answer) → Leads (after s (reply y 0) out b) y [] h
  refused y = (ap₂ (gets y 0 out) (sym a.lies) (a.held ∙ length_records (kept_in h)), a, refl)

  module _ (e : Event) (f : Well xs (heard e)) where
    abbrev said : Answer
    said = judge_kept room (length out) h e xs

    abbrev freed : List Kept
    freed = released_by (doing e) (kept_in h)

    abbrev stored : After
    stored = after (stored_of s e g) (reply said (length (released_from (doing e) b))) (laid (released_from (doing e) b) out) (hold_after (doing e) (place h) xs b)

    judged : (v : Bool) → accepts said ≡ v → Leads (cond v stored (after s (reply said 0) out b)) said (cond v freed []) (cond v (entry e (given xs g) ∷ h) h)
    judged true ok = (
      ap₂ (λ (rs : List ℕ) (c : Hold). gets said (length rs) (laid rs out) c.buffer c.held) (same-released s b h a (doing e)) (hold-is s b h a e xs g f (length out) ok)
          ∙ rw (length_records freed, length_records (kept_in (entry e (given xs g) ∷ h))),
      kept-after s b h a e xs g f (length out) ok,
      version_after s b h a e xs g f (length out) ok,
    )
    judged false ok = refused said

  heard_follows : (r : Heard) → Well xs r → Follows (heard_after s b out r xs g) r
  heard_follows (unread n o) f = refused (answer.Refused n o)
  heard_follows (heard e) f = rw (ap₂ (settled s b out e xs g) a.told.at (same_answer s b h a e xs g f (length out))) (judged e f (accepts (said e f)) refl)

  step_follows : Follows (step_of s b out xs g) (hears (version_for s) (place h) xs)
  unfolding step_of
  step_follows = go (says s).place a.told.at
    where
      go : (p : Place) → p ≡ place h → Follows (heard_after s b out (hears (version_for s) p xs) xs g) (hears (version_for s) (place h) xs)
      go p e = rw e (heard_follows (hears (version_for s) (place h) xs) (hears_well (version_for s) (place h) xs))

-- A LIST
pub agree_run : (l : List Call) (s : Session) (b : Hold) (h : History) → Agrees s b h → run s b l ≡ outcomes (version_for s) b.buffer h l
unfolding run outcomes
agree_run [] s b h a = refl
agree_run (call (given xs g) out ∷ l) s b h a =
    let k = step_follows s b h a xs g out in
    let t = step_of s b out xs g in
    let n = history_after (length b.buffer) (length out) h (hears (version_for s) (place h) xs) xs g in
    ap₂ (λ (o : Outcome) (r : List Outcome). o ∷ r) k.0
    (agree_run l t.session (hold t.outcome.buffer t.outcome.held) n k.1 ∙ ap₂ (λ (v : Version) (o : Outcome). outcomes v o.buffer n l) k.2 k.0)

-- two versions that hear the same have the same outcomes
pub same_hearing_outcomes : (v w : Version) → ((p : Place) (xs : List ℕ) → hears v p xs ≡ hears w p xs) → (l : List Call) (buffer : List ℕ) (h : History) → outcomes v buffer h l ≡ outcomes w buffer h l
unfolding outcomes
same_hearing_outcomes v w same [] buffer h = refl
same_hearing_outcomes v w same (call (given xs g) out ∷ l) buffer h =
    let room = length buffer in
    let n = length out in
    let m = hears w (place h) xs in
    let after = history_after room n h m xs g in
    let o = outcome (answer_to room n h m xs) (released_to room n h m xs) out buffer after in
    rw (same (place h) xs) (ap (λ (t : List Outcome). o ∷ t) (same_hearing_outcomes v w same l o.buffer after))
