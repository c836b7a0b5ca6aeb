-- What the parts of a step did, put together. Assumes nothing.
use Prim.Native.Nat.{ℕ}
use mathlib.Core.List.{List}
use mathlib.Core.Bool.{true, false, cond}
use mathlib.Core.Path.{◌≡◌, sym, ◌∙◌, ap, ap₂}
use lib.ListN.{length}
use Rattle.std.specs.Prelude.{Result, Ok, Err, IsErrAnd}
use Rattle.std.specs.Result.{result_and}
use Rattle.std.proofs.lemmas.Result.{err_from_is_err_and}
use Rattle.wire.specs.declared.Refusal.{Refusal}
use Rattle.session.specs.declared.Looked.{Looked}
use Rattle.session.specs.declared.Place.{Place}
use Rattle.session.specs.Answers.{Answer, Accepted}
use Rattle.session.specs.declared.Session.{Session}
use Rattle.session.specs.Events.{Event}
use Rattle.session.specs.Rules.{accepts, Heard, hears}
use Rattle.session.specs.Machine.{version_in, place_in, head_in, answer_of, stored_of}
use Rattle.session.specs.Acts.{heard_in}
use Rattle.keeper.specs.Rules.{Doing, doing, laid, rule_keeper, ruled}
use Rattle.keeper.specs.Records.{Hold}
use Rattle.keeper.specs.Machine.{hold_after, released_from, space_in, reply, After, after, settled, event_after, heard_after, step_of}

-- a test of the keeper's that is passed
pub passes : {T : Type 0} (t : Result T Refusal) (x : T) → t ≡ Ok x → (y : Answer) → result_and t Accepted ≡ y → accepts y ≡ true
passes {T} t x w y e = ap accepts (sym e ∙ ap (λ (z : Result T Refusal). result_and z Accepted) w)

-- the exit of a `?` hands a refusal on as it is
pub handed-on : (r : Refusal) (y : Answer) → IsErrAnd y (λ k. k ≡ r) → y ≡ Err r
handed-on r y h = let k = err_from_is_err_and y h in k.1 ∙ ap Err k.2

-- AN EVENT, by where the session stands, its answer and the keeper's
module _ (s : Session) (b : Hold) (out xs : List ℕ) (e : Event) (g : ℕ) (d : Doing) (ed : d ≡ doing e) (p : Place) (ep : p ≡ place_in (head_in s.head))
    (a : Answer) (ea : a ≡ answer_of s e) where
  abbrev by_keeper : Answer → Answer
  by_keeper z = rule_keeper (space_in b (length out) d) d p (length xs) z

  settled_by : Doing → Answer → After
  settled_by y z =
      cond (accepts z)
      (after (stored_of s e g) (reply z (length (released_from y b))) (laid (released_from y b) out) (hold_after y p xs b))
      (after s (reply z 0) out b)

  settled_is : (z : Answer) → z ≡ ruled (space_in b (length out) d) d p (length xs) a → settled_by d z ≡ event_after s b out e xs g
  unfolding settled_by
  settled_is z es =
      ap (settled_by d) es
      ∙ ap (λ (y : Doing). settled_by y (ruled (space_in b (length out) y) y p (length xs) a)) ed
      ∙ ap₂ (λ (q : Place) (w : Answer). settled s b out e xs g q (ruled (space_in b (length out) (doing e)) (doing e) q (length xs) w)) ep ea

  -- the session refuses
  pub refused_by : accepts a ≡ false → after s (reply a 0) out b ≡ event_after s b out e xs g
  unfolding settled_by
  refused_by w = rw w at (settled_is a (rw w))

  module _ (w : accepts a ≡ true) {T : Type 0} (t : Result T Refusal) (et : result_and t a ≡ by_keeper a) where
    -- the keeper refuses
    pub kept_out : (r : Refusal) → t ≡ Err r → (y : Answer) → y ≡ Err r → after s (reply y 0) out b ≡ event_after s b out e xs g
    unfolding settled_by
    kept_out r v y h =
        ap (λ (x : Answer). after s (reply x 0) out b) h ∙ settled_is (Err r) (rw w (ap (λ (z : Result T Refusal). result_and z a) (sym v) ∙ et))

    -- both accept
    pub both_stored : (x : T) → t ≡ Ok x → (n : ℕ) → n ≡ length (released_from d b) → (m : Session) (o : List ℕ) (c : Hold)
        → m ≡ stored_of s e g → o ≡ laid (released_from d b) out → c ≡ hold_after d p xs b
        → after m (reply a n) o c ≡ event_after s b out e xs g
    unfolding settled_by
    both_stored x v n en m o c em eo ec =
        rw (em, en, eo, ec) (rw w at (settled_is a (rw w (ap (λ (z : Result T Refusal). result_and z a) (sym v) ∙ et))))

-- A STEP, by what is heard
module _ (s : Session) (b : Hold) (out xs : List ℕ) (g : ℕ) (l : Result Looked Refusal) (el : heard_in l xs ≡ hears (version_in (head_in s.head)) (place_in (head_in s.head)) xs) where
  pub heard-is : (m : Result Looked Refusal) → l ≡ m → heard_after s b out (heard_in m xs) xs g ≡ step_of s b out xs g
  unfolding step_of
  heard-is m e = ap (λ (x : Result Looked Refusal). heard_after s b out (heard_in x xs) xs g) (sym e) ∙ ap (λ (x : Heard). heard_after s b out x xs g) el

  pub unread-is : (r : Refusal) → l ≡ Err r → after s (reply (Err r) 0) out b ≡ step_of s b out xs g
  unread-is r e = heard-is (Err r) e
