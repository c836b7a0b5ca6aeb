-- The messages of a block of x, and what they leave as it was. Assumes nothing.
use mathlib.Core.Path.{◌≡◌, refl, sym, ◌∙◌, ap}
use mathlib.Core.List.{List, [], ◌∷◌}
use mathlib.Core.Bool.{Bool, true, false, not, ◌&&◌, false≢true}
use Prim.Native.Nat.{ℕ}
use lib.Dec.{eqb}
use borrow.Author.Tests.{eqb-true, ne_eqb}
use Rattle.session.specs.declared.Place.TheVariants.{Idle, Block}
use Rattle.session.specs.Events.{Event, Begin, Commit, Origin, Relation, Change, Truncate, Neutral, Logical, StreamStart, StreamStop, StreamCommit, StreamAbort, Tuple}
use Rattle.session.specs.History.{Given, Entry, entry, History, place_after, place, is_changed, common}
use Rattle.session.specs.Rules.{rooms, judge, accepts}
use Rattle.session.proofs.Alike.{AlikeAt, Alike, at_refl, at_sym, at_trans, at_after}

-- what may stand in a block behind its S
pub data Inner : Event → Type 0 where
  origin : Inner Origin
  relation : {o i c : ℕ} → Inner (Relation o i c)
  change : {y o : ℕ} {ts : List Tuple} → Inner (Change y o ts)
  truncate : {y : ℕ} {os : List ℕ} → Inner (Truncate y os)
  neutral : Inner Neutral
  logical : {b : Bool} → Inner (Logical b)
  stop : Inner StreamStop

-- the only law here that has a line for each kind
pub inner : (x : ℕ) (h : History) → place h ≡ Block x → (e : Event) → accepts (judge rooms h e) ≡ true → Inner e
inner x h p (Begin l y) ok = absurd (false≢true (rw p at ok))
inner x h p (Commit l) ok = absurd (false≢true (rw p at ok))
inner x h p Origin ok = origin
inner x h p (Relation o i c) ok = relation
inner x h p (Change y o ts) ok = change
inner x h p (Truncate y os) ok = truncate
inner x h p Neutral ok = neutral
inner x h p (Logical b) ok = logical
inner x h p (StreamStart y first) ok = absurd (false≢true (rw p at ok))
inner x h p StreamStop ok = stop
inner x h p (StreamCommit y) ok = absurd (false≢true (rw p at ok))
inner x h p (StreamAbort y sub) ok = absurd (false≢true (rw p at ok))

-- a message of a block of x
pub data Turn (x : ℕ) (h : History) : Event → Type 0 where
  starts : {first : Bool} → place h ≡ Idle → Turn x h (StreamStart x first)
  goes : {e : Event} → place h ≡ Block x → Inner e → Turn x h e

-- all but its E leave the block open
pub turn_open : (x : ℕ) (h : History) → place h ≡ Block x → {e : Event} → Inner e → (e ≡ StreamStop → ⊥) → place_after e (place h) ≡ Block x
turn_open x h p origin n = p
turn_open x h p relation n = p
turn_open x h p change n = p
turn_open x h p truncate n = p
turn_open x h p neutral n = p
turn_open x h p logical n = p
turn_open x h p stop n = absurd (n refl)

-- from h to k nothing changed but what x has
pub record Stays (x : ℕ) (h k : History) : Type 0 where
  pub others : (t : ℕ) → eqb x t ≡ false → AlikeAt t k h
  pub shared : (o : ℕ) → common k o ≡ common h o

stays_refl : (x : ℕ) (h : History) → Stays x h h
stays_refl x h = record { others = λ t n. at_refl t h; shared = λ o. refl }

stays_trans : {x : ℕ} {h k l : History} → Stays x h k → Stays x k l → Stays x h l
stays_trans a b = record { others = λ t n. at_trans (b.others t n) (a.others t n); shared = λ o. b.shared o ∙ a.shared o }

module _ (x : ℕ) (h : History) (g : Given) where
  inner_stays : place h ≡ Block x → {e : Event} → Inner e → Stays x h (entry e g ∷ h)
  inner_stays p origin = record { others = λ t n. record { opened = refl; changed = refl; mine = λ o. refl }; shared = λ o. refl }
  inner_stays p relation = record { others = λ t n. record { opened = refl; changed = refl; mine = λ o. rw (p, n) }; shared = λ o. rw p }
  inner_stays p change = record { others = λ t n. record { opened = refl; changed = rw (p, n); mine = λ o. refl }; shared = λ o. refl }
  inner_stays p truncate = record { others = λ t n. record { opened = refl; changed = rw (p, n); mine = λ o. refl }; shared = λ o. refl }
  inner_stays p neutral = record { others = λ t n. record { opened = refl; changed = refl; mine = λ o. refl }; shared = λ o. refl }
  inner_stays p logical = record { others = λ t n. record { opened = refl; changed = refl; mine = λ o. refl }; shared = λ o. refl }
  inner_stays p stop = record { others = λ t n. record { opened = refl; changed = refl; mine = λ o. refl }; shared = λ o. refl }

  pub turn_stays : {e : Event} → Turn x h e → Stays x h (entry e g ∷ h)
  turn_stays (starts {first} p) = record { others = λ t n. record { opened = rw n; changed = rw n (go first t); mine = λ o. refl }; shared = λ o. refl }
    where
      go : (v : Bool) (t : ℕ) → not (v && false) && is_changed h t ≡ is_changed h t
      go true t = refl
      go false t = refl
  turn_stays (goes p i) = inner_stays p i

-- THE ENTRIES OF A BLOCK, or of the rest of one, put on a history one after the other
abbrev pub onto : List Entry → History → History
onto [] h = h
onto (n ∷ es) h = onto es (n ∷ h)

abbrev pub Along : ℕ → List Entry → History → Type 0
Along x [] h = Unit {0}
Along x (entry e g ∷ es) h = Turn x h e × Along x es (entry e g ∷ h)

along_stays : (x : ℕ) (es : List Entry) (h : History) → Along x es h → Stays x h (onto es h)
along_stays x [] h a = stays_refl x h
along_stays x (entry e g ∷ es) h a = stays_trans (turn_stays x h g a.0) (along_stays x es (entry e g ∷ h) a.1)

-- the same entries on two histories that stand at the same place
pub turn_other : {x : ℕ} {h k : History} → place h ≡ place k → {e : Event} → Turn x h e → Turn x k e
turn_other p (starts q) = starts (sym p ∙ q)
turn_other p (goes q i) = goes (sym p ∙ q) i

pub along_other : (x : ℕ) (es : List Entry) (h k : History) → place h ≡ place k → Along x es h → Along x es k
along_other x [] h k p a = tt
along_other x (entry e g ∷ es) h k p a = (turn_other p a.0, along_other x es (entry e g ∷ h) (entry e g ∷ k) (ap (place_after e) p) a.1)

onto_place : (es : List Entry) (h k : History) → place h ≡ place k → place (onto es h) ≡ place (onto es k)
onto_place [] h k p = p
onto_place (entry e g ∷ es) h k p = onto_place es (entry e g ∷ h) (entry e g ∷ k) (ap (place_after e) p)

onto_alike : (t : ℕ) (es : List Entry) (h k : History) → place h ≡ place k → AlikeAt t h k → AlikeAt t (onto es h) (onto es k)
onto_alike t [] h k p a = a
onto_alike t (entry e g ∷ es) h k p a = onto_alike t es (entry e g ∷ h) (entry e g ∷ k) (ap (place_after e) p) (at_after p a e g)

-- TWO BLOCKS IN EITHER ORDER: f of x and s of y, each from idle to idle
pub record Blocks (x y : ℕ) (h : History) (f s : List Entry) : Type 0 where
  pub differ : x ≡ y → ⊥
  pub first : Along x f h
  pub second : Along y s (onto f h)
  pub before : place h ≡ Idle
  pub between : place (onto f h) ≡ Idle
  pub behind : place (onto s (onto f h)) ≡ Idle

module _ {x y : ℕ} {h : History} {f s : List Entry} (b : Blocks x y h f s) where
  pub second_before : Along y s h
  second_before = along_other y s (onto f h) h (b.between ∙ sym b.before) b.second

  pub second_idle : place (onto s h) ≡ Idle
  second_idle = onto_place s h (onto f h) (b.before ∙ sym b.between) ∙ b.behind

  pub first_behind : Along x f (onto s h)
  first_behind = along_other x f h (onto s h) (b.before ∙ sym second_idle) b.first

  -- each block finds what it had
  pub stays_first : Stays x h (onto f h)
  stays_first = along_stays x f h b.first

  pub stays_second : Stays y h (onto s h)
  stays_second = along_stays y s h second_before

  pub either_alike : Alike (onto s (onto f h)) (onto f (onto s h))
  either_alike = record {
    at = b.behind ∙ sym (onto_place f (onto s h) h (second_idle ∙ sym b.before) ∙ b.between);
    each = at;
    shared = λ o. A.shared o ∙ stays_first.shared o ∙ sym (stays_second.shared o) ∙ sym (B.shared o);
  }
    where
      A : Stays y (onto f h) (onto s (onto f h))
      A = along_stays y s (onto f h) b.second

      B : Stays x (onto s h) (onto f (onto s h))
      B = along_stays x f (onto s h) first_behind

      at : (t : ℕ) → AlikeAt t (onto s (onto f h)) (onto f (onto s h))
      at t = go (eqb y t) refl
        where
          go : (u : Bool) → eqb y t ≡ u → AlikeAt t (onto s (onto f h)) (onto f (onto s h))
          go false n = at_trans (A.others t n) (onto_alike t f h (onto s h) (b.before ∙ sym second_idle) (at_sym (stays_second.others t n)))
          go true w =
              let n : eqb x t ≡ false = ne_eqb x t (λ e. b.differ (e ∙ sym (eqb-true y t w))) in
              at_trans (onto_alike t s (onto f h) h (b.between ∙ sym b.before) (stays_first.others t n)) (at_sym (B.others t n))
