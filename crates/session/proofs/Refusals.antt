-- What a refusal leaves as it was, and a session of an unknown version. Assumes nothing.
use Prim.Native.Nat.{ℕ}
use mathlib.Core.Path.{◌≡◌, refl, ap}
use mathlib.Core.List.{List, [], ◌∷◌}
use mathlib.Core.Bool.{false}
use Rattle.message.specs.declared.Version.{Version}
use Rattle.message.specs.Versions.{is_known, version_allows}
use Rattle.message.specs.Messages.{read_message}
use Rattle.session.specs.declared.Place.{Place}
use Rattle.session.specs.declared.Place.TheVariants.{Idle}
use Rattle.session.specs.Answers.{Answer}
use Rattle.session.specs.Answers as answer
use Rattle.session.specs.declared.Session.{Session}
use Rattle.session.specs.History.{Given, given, History, place}
use Rattle.session.specs.Rules.{rooms, accepts, Heard, unread, heard, hears, answer_to, history_after, answers_by, history_by, answers, past}
use Rattle.session.specs.Machine.{version_in, parts_of, shows, heard_step, step_of}

-- a refused message leaves every record, made-up ones too, as it was
pub refused-keeps : (s : Session) (xs : List ℕ) (g : ℕ) → accepts (step_of s xs g).answer ≡ false → (step_of s xs g).session ≡ s
unfolding step_of
refused-keeps s xs g = go (hears (version_in (parts_of s).head) (shows s).place xs)
  where
    go : (r : Heard) → accepts (heard_step s r g).answer ≡ false → (heard_step s r g).session ≡ s
    go (unread n o) e = refl
    go (heard m) e = rw e

-- under a version that is neither 1 nor 2 every message is refused with 1 at 0
pub unknown_hears : (v : Version) → is_known v ≡ false → (p : Place) (xs : List ℕ) → hears v p xs ≡ unread 1 0
unfolding read_message version_allows
unknown_hears v e p xs = rw e

abbrev pub refusals : List Given → List Answer
refusals [] = []
refusals (given xs g ∷ l) = answer.Refused 1 0 ∷ refusals l

pub unknown_version : (v : Version) → is_known v ≡ false → (l : List Given) → answers v [] l ≡ refusals l
unfolding answers_by
unknown_version v e [] = refl
unknown_version v e (given xs g ∷ l) = rw (unknown_hears v e Idle xs) (ap (λ (t : List Answer). answer.Refused 1 0 ∷ t) (unknown_version v e l))

-- two versions that hear the same have the same answers and the same history
module _ (v w : Version) (same : (p : Place) (xs : List ℕ) → hears v p xs ≡ hears w p xs) where
  pub same_hearing_answers : (l : List Given) (h : History) → answers v h l ≡ answers w h l
  unfolding answers_by
  same_hearing_answers [] h = refl
  same_hearing_answers (given xs g ∷ l) h =
      rw (same (place h) xs) (ap (λ (t : List Answer). answer_to rooms h (hears w (place h) xs) ∷ t) (same_hearing_answers l (history_after rooms h (hears w (place h) xs) (given xs g))))

  pub same_hearing_past : (l : List Given) (h : History) → past v h l ≡ past w h l
  unfolding history_by
  same_hearing_past [] h = refl
  same_hearing_past (given xs g ∷ l) h = rw (same (place h) xs) (same_hearing_past l (history_after rooms h (hears w (place h) xs) (given xs g)))
