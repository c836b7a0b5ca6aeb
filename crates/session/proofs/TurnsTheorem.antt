-- ORDER OF TURNS (request 105), for a session alone: the statement is `Turns`, in specs.
use mathlib.Core.Path.{◌≡◌, refl, sym, ◌∙◌, ap}
use mathlib.Core.List.{List, [], ◌∷◌, ◌++◌, map}
use mathlib.Core.Bool.{Bool, ◌&&◌}
use Rattle.message.specs.declared.Version.{Version}
use Rattle.session.specs.Answers.{Answer}
use Rattle.session.specs.History.{Given, given, History, place}
use Rattle.session.specs.Rules.{rooms, accepts, Heard, unread, heard, hears, answer_to, history_after, answers_by, answers, version_of}
use Rattle.session.specs.Machine.{start_of}
use Rattle.session.specs.Runs.{run}
use Rattle.session.specs.Turns.{gets_after, all_accepted, Turns}
use Rattle.session.proofs.ListTheorem.{session-answers}
use Rattle.session.proofs.Alike.{Alike, alike_after, alike_judged}
use Rattle.session.proofs.Stays.{either_alike}
use Rattle.session.proofs.Turns.{Way, all_taken, next, get_all, either_order}

abbrev alone : Way
alone = record {
  Item = Given;
  Gets = Answer;
  given_of = λ g. g;
  gets = λ h m g. answer_to rooms h m;
  taken = accepts;
  Like = Alike;
  Fits = λ h. Unit {0};
  unread_not = λ h n o g. refl;
  accepted = λ h e g ok. ok;
  takes = λ x h e g t ok f. ok;
  same = λ x h k e g t u i j s. s;
  like_place = λ h k a. a.at;
  like_gets = λ h k a m g. same_answer h k a m;
  like_after = λ h k a e g. alike_after a e g;
  like_blocks = λ x y h f s b. either_alike b;
  fits-none = tt;
  fits_after = λ h e g ok f. tt;
  fits_before = λ x h e g t f. tt;
  fits_like = λ h k a f. tt;
}
  where
    same_answer : (h k : History) → Alike h k → (m : Heard) → answer_to rooms h m ≡ answer_to rooms k m
    same_answer h k a (unread n o) = refl
    same_answer h k a (heard e) = alike_judged a e

same_next : (h : History) (m : Heard) (g : Given) → next alone h m g ≡ history_after rooms h m g
same_next h (unread n o) g = refl
same_next h (heard e) g = refl

same_all : (v : Version) (l : List Given) (h : History) → answers v h l ≡ get_all alone v h l
unfolding answers_by get_all
same_all v [] h = refl
same_all v (given xs g ∷ l) h =
    let m = hears v (place h) xs in
    ap (λ (t : List Answer). answer_to rooms h m ∷ t) (same_all v l (history_after rooms h m (given xs g)) ∙ ap (λ (k : History). get_all alone v k l) (sym (same_next h m (given xs g))))

same_taken : (l : List Answer) → all_taken alone l ≡ all_accepted l
same_taken [] = refl
same_taken (a ∷ l) = ap (λ (b : Bool). accepts a && b) (same_taken l)

map_same : (l : List Given) → l ≡ map (λ g. g) l
map_same [] = refl
map_same (g ∷ l) = ap (λ (t : List Given). g ∷ t) (map_same l)

pub turns : Turns
turns start x y d before one two after b c p =
    either_order alone (version_of start) (run (start_of start)) (run (start_of start)) is is x y d before one two after (rw (← map_same one) b) (rw (← map_same two) c)
    (same_taken (gets_after (run (start_of start)) before (one ++ two)) ∙ p)
  where
    is : (l : List Given) → run (start_of start) l ≡ get_all alone (version_of start) [] l
    is l = session-answers start l ∙ same_all (version_of start) l []
