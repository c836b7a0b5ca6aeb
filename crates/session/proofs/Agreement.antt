-- A session agrees with history: both give a message the same answer, and an accepted message keeps them in agreement. Assumes nothing.
use mathlib.Core.Path.{◌≡◌, refl, sym, ◌∙◌, ap}
use mathlib.Core.List.{[], ◌∷◌}
use mathlib.Core.Bool.{Bool, true, false, cond, not, ◌||◌, ◌&&◌, true≢false, false≢true}
use Prim.Native.Nat.{ℕ}
use lib.Dec.{eqb, leb}
use borrow.Author.Tests.{eq-eqb, ne_eqb, eqb-true, eqb-false}
use Rattle.session.specs.declared.Place.{Place}
use Rattle.session.specs.declared.Place.TheVariants.{Idle, Transaction, Block}
use Rattle.session.specs.Answers.{Answer}
use Rattle.session.specs.Answers as answer
use Rattle.session.specs.Events.{Event, Begin, Commit, Origin, Relation, Change, Truncate, Neutral, Logical, StreamStart, StreamStop, StreamCommit, StreamAbort}
use Rattle.session.specs.History.{unannounced, is_announced, or_else, Given, tag_of, shown, entry, History, place, is_idle, holder_at, is_open, open_count, is_changed, latest, live_count}
use Rattle.session.specs.Rules.{rooms, sight_of, test, rule_relation, rule_stream_start, rule_stream_end, judge, accepts}
use Rattle.session.specs.State.{Layout, StateOf, fresh_by, sight_by, changed_at, answer_by, flagged_at, marked_at, streams_after, state_by}
use Rattle.wire.proofs.Tests.{not_true}
use Rattle.session.proofs.Formed.{NonZero, Formed}
use Rattle.session.proofs.Lawful.{Lawful}
use Rattle.session.proofs.Sights.{Same, same-judged}
use Rattle.session.proofs.Streams as Streams
use Rattle.session.proofs.Rows as Rows
use Rattle.session.proofs.Live as Live

-- a block's transaction is open
abbrev Inside : History → Place → Type 0
Inside h Idle = Unit {0}
Inside h (Transaction l) = Unit {0}
Inside h (Block x) = NonZero x × (is_open h x ≡ true)

pub record Agrees (L : Layout) (laws : Lawful L) (s : StateOf L.Rows) (h : History) : Type 0 where
  pub at : s.place ≡ place h
  pub inside : Inside h (place h)
  pub plain : s.changed ≡ is_changed h 0
  pub streams : Streams.Agrees s.streams h
  pub table : Rows.Agrees L laws s.table h

pub fresh : (L : Layout) (laws : Lawful L) → Agrees L laws (fresh_by L) []
fresh L laws = record { at = refl; inside = tt; plain = refl; streams = Streams.fresh; table = Rows.fresh L laws }

-- THE SAME SIGHT, and so the same answer

module _ (L : Layout) (laws : Lawful L) (s : StateOf L.Rows) (h : History) (a : Agrees L laws s h) where
  same-changed : (p : Place) → Inside h p → changed_at s.changed s.streams (holder_at p) ≡ is_changed h (holder_at p)
  same-changed Idle w = a.plain
  same-changed (Transaction l) w = a.plain
  same-changed (Block x) w = rw (ne_eqb x 0 w.0) (a.streams.marks x w.0 w.1)

  pub same_sight : Same (sight_by L s) (sight_of h)
  same_sight = record {
    place = a.at;
    opened = a.streams.same;
    open_count = Streams.same_count s.streams h a.streams;
    changed = ap (λ (p : Place). changed_at s.changed s.streams (holder_at p)) a.at ∙ same-changed (place h) a.inside;
    latest = a.table.same;
    live_count = sym (Live.live_used L laws s.table h a.table);
  }

  pub same_answer : (e : Event) → answer_by L s e ≡ judge rooms h e
  same_answer = same-judged rooms (sight_by L s) (sight_of h) same_sight

-- WHAT ACCEPTANCE SAYS

passed : (ok : Bool) (n : ℕ) (rest : Answer) → accepts (test ok n rest) ≡ true → (ok ≡ true) × (accepts rest ≡ true)
passed true n rest e = (refl, e)
passed false n rest e = absurd (false≢true e)

-- a message that needs a transaction or a block
busy : (p : Place) (rest : Answer) → accepts (test (not (is_idle p)) 7 rest) ≡ true → is_idle p ≡ false
busy p rest e = not_true (is_idle p) (passed (not (is_idle p)) 7 rest e).0

end_accepted : (p : Place) (o : Bool) → accepts (rule_stream_end p o) ≡ true → (is_idle p ≡ true) × (o ≡ true)
end_accepted p o e = let k = passed (is_idle p) 7 (test o 8 answer.Accepted) e in (k.0, (passed o 8 answer.Accepted k.1).0)

pub start_accepted : (p : Place) (first o full : Bool) → accepts (rule_stream_start p first o full) ≡ true → (o ≡ not first) × (first ≡ true → full ≡ false)
start_accepted p first o full e = go first o full (passed (is_idle p) 7 (test (cond first (not o) o) 8 (test (not (first && full)) 12 answer.Accepted)) e).1
  where
    go : (first o full : Bool) → accepts (test (cond first (not o) o) 8 (test (not (first && full)) 12 answer.Accepted)) ≡ true → (o ≡ not first) × (first ≡ true → full ≡ false)
    go true true full e = absurd (false≢true e)
    go true false true e = absurd (false≢true e)
    go true false false e = (refl, λ k. refl)
    go false true full e = (refl, λ k. absurd (false≢true k))
    go false false full e = absurd (false≢true e)

pub relation_accepted : (p : Place) (live full : Bool) → accepts (rule_relation p live full) ≡ true → live ≡ false → full ≡ false
relation_accepted p live full e k =
    let m = (passed (live || not full) 11 answer.Accepted (passed (not (is_idle p)) 7 (test (live || not full) 11 answer.Accepted) e).1).0 in
    not_true full (rw k at m)

-- AFTER AN ACCEPTED MESSAGE

inside-kept : (h h' : History) (p : Place) → ((t : ℕ) → is_open h' t ≡ is_open h t) → Inside h p → Inside h' p
inside-kept h h' Idle k w = tt
inside-kept h h' (Transaction l) k w = tt
inside-kept h h' (Block x) k w = (w.0, k x ∙ w.1)

idle_inside : (h : History) (p : Place) → is_idle p ≡ true → Inside h p
idle_inside h Idle e = tt
idle_inside h (Transaction l) e = absurd (false≢true e)
idle_inside h (Block x) e = absurd (false≢true e)

-- no block is of xid 0
abbrev pub Proper : Place → Type 0
Proper Idle = Unit {0}
Proper (Transaction l) = Unit {0}
Proper (Block x) = NonZero x

inside_proper : (h : History) (p : Place) → Inside h p → Proper p
inside_proper h Idle w = tt
inside_proper h (Transaction l) w = tt
inside_proper h (Block x) w = w.0

-- what history holds after an announcement at a place
pub latest-relation : (h : History) (n i c : ℕ) (g : Given) (p : Place) → place h ≡ p → is_idle p ≡ false → Proper p → (t o : ℕ)
    → latest (entry (Relation n i c) g ∷ h) t o ≡ cond (eqb (holder_at p) t && eqb n o) (shown g i c) (latest h t o)
latest-relation h n i c g Idle e b w t o = absurd (true≢false b)
latest-relation h n i c g (Transaction l) e b w t o = go (eqb t 0) refl
  where
    go : (v : Bool) → eqb t 0 ≡ v → latest (entry (Relation n i c) g ∷ h) t o ≡ cond (eqb 0 t && eqb n o) (shown g i c) (latest h t o)
    go true k = rw (e, eqb-true t 0 k)
    go false k = rw (e, k, ne_eqb 0 t (λ z. eqb-false t 0 k (sym z)))
latest-relation h n i c g (Block x) e b w t o = go (eqb t 0) refl
  where
    go : (v : Bool) → eqb t 0 ≡ v → latest (entry (Relation n i c) g ∷ h) t o ≡ cond (eqb x t && eqb n o) (shown g i c) (latest h t o)
    go true k = rw (e, eqb-true t 0 k, ne_eqb x 0 w)
    go false k = rw (e, k)

-- and after a commit
latest-commit : (h : History) (x : ℕ) (g : Given) → NonZero x → (t o : ℕ)
    → latest (entry (StreamCommit x) g ∷ h) t o ≡ cond (eqb t 0) (or_else (latest h x o) (latest h t o)) (cond (eqb x t) unannounced (latest h t o))
latest-commit h x g f t o = go (eqb t 0) refl
  where
    go : (v : Bool) → eqb t 0 ≡ v → latest (entry (StreamCommit x) g ∷ h) t o ≡ cond v (or_else (latest h x o) (latest h t o)) (cond (eqb x t) unannounced (latest h t o))
    go true k = rw (k, ne_eqb x 0 f)
    go false k = rw k

-- and after a full abort
latest_abort : (h : History) (x sub : ℕ) (g : Given) → eqb x sub ≡ true → NonZero x → (t o : ℕ) → latest (entry (StreamAbort x sub) g ∷ h) t o ≡ cond (eqb x t) unannounced (latest h t o)
latest_abort h x sub g e f t o = go (eqb t 0) refl
  where
    go : (v : Bool) → eqb t 0 ≡ v → latest (entry (StreamAbort x sub) g ∷ h) t o ≡ cond (eqb x t) unannounced (latest h t o)
    go true k = rw (eqb-true t 0 k, ne_eqb x 0 f)
    go false k = rw (k, e)

module _ (L : Layout) (laws : Lawful L) (s : StateOf L.Rows) (h : History) (a : Agrees L laws s h) where
  -- a message that leaves everything as it is
  quiet : (h' : History) → place h' ≡ place h → ((t : ℕ) → is_open h' t ≡ is_open h t) → ((t : ℕ) → is_changed h' t ≡ is_changed h t)
      → ((t o : ℕ) → latest h' t o ≡ latest h t o) → Agrees L laws s h'
  quiet h' pl op ch hd = record {
    at = a.at ∙ sym pl;
    inside = rw pl (inside-kept h h' (place h) op a.inside);
    plain = a.plain ∙ sym (ch 0);
    streams = Streams.unchanged s.streams h h' a.streams op (λ t z. ch t);
    table = Rows.unchanged L laws s.table h h' a.table hd;
  }

  -- a change
  changing : (h' : History) → place h' ≡ place h → ((t : ℕ) → is_open h' t ≡ is_open h t) → ((t : ℕ) → is_changed h' t ≡ eqb (holder_at (place h)) t || is_changed h t)
      → ((t o : ℕ) → latest h' t o ≡ latest h t o) → is_idle (place h) ≡ false
      → Agrees L laws (record { place = s.place; changed = flagged_at s.place s.changed; streams = marked_at s.place s.streams; table = s.table }) h'
  changing h' pl op ch hd b = record {
    at = a.at ∙ sym pl;
    inside = rw pl (inside-kept h h' (place h) op a.inside);
    plain = rw (a.at, ch 0) (flag (place h) a.inside b);
    streams = rw a.at (marks (place h) refl b a.inside);
    table = Rows.unchanged L laws s.table h h' a.table hd;
  }
    where
      flag : (p : Place) → Inside h p → is_idle p ≡ false → flagged_at p s.changed ≡ eqb (holder_at p) 0 || is_changed h 0
      flag Idle w b = absurd (true≢false b)
      flag (Transaction l) w b = refl
      flag (Block x) w b = rw (ne_eqb x 0 w.0) a.plain

      marks : (p : Place) → place h ≡ p → is_idle p ≡ false → Inside h p → Streams.Agrees (marked_at p s.streams) h'
      marks Idle e b w = absurd (true≢false b)
      marks (Transaction l) e b w = Streams.unchanged s.streams h h' a.streams op (λ t z. ch t ∙ rw (e, ne_eqb 0 t (λ k. z (sym k))))
      marks (Block x) e b w = Streams.marking_x s.streams h a.streams x w.0 h' op (λ t. ch t ∙ rw e) w.1

  pub kept : (e : Event) (g : Given) → Formed e → accepts (judge rooms h e) ≡ true → Agrees L laws (state_by L s e (tag_of g)) (entry e g ∷ h)
  kept (Begin l x) g f ok = record {
    at = refl;
    inside = tt;
    plain = refl;
    streams = Streams.unchanged s.streams h (entry (Begin l x) g ∷ h) a.streams (λ t. refl) (λ t z. rw (ne_eqb t 0 z));
    table = Rows.unchanged L laws s.table h (entry (Begin l x) g ∷ h) a.table (λ t o. refl);
  }
  kept (Commit l) g f ok = record {
    at = refl;
    inside = tt;
    plain = a.plain;
    streams = Streams.unchanged s.streams h (entry (Commit l) g ∷ h) a.streams (λ t. refl) (λ t z. refl);
    table = Rows.unchanged L laws s.table h (entry (Commit l) g ∷ h) a.table (λ t o. refl);
  }
  kept Origin g f ok = quiet (entry Origin g ∷ h) refl (λ t. refl) (λ t. refl) (λ t o. refl)
  kept (Relation n i c) g f ok = record {
    at = a.at;
    inside = inside-kept h (entry (Relation n i c) g ∷ h) (place h) (λ t. refl) a.inside;
    plain = a.plain;
    streams = Streams.unchanged s.streams h (entry (Relation n i c) g ∷ h) a.streams (λ t. refl) (λ t z. refl);
    table = rw a.at (Rows.putting L laws s.table h (entry (Relation n i c) g ∷ h) a.table (holder_at (place h)) n (tag_of g) i c f
        (latest-relation h n i c g (place h) refl (busy (place h) _ ok) (inside_proper h (place h) a.inside))
        (λ none. ap (leb 256) (sym (Live.live_used L laws s.table h a.table))
        ∙ relation_accepted (place h) (is_announced (latest h (holder_at (place h)) n)) (leb 256 (live_count h)) ok (ap is_announced (sym (a.table.same (holder_at (place h)) n)) ∙ none)));
  }
  kept (Change x o ts) g f ok = changing (entry (Change x o ts) g ∷ h) refl (λ t. refl) (λ t. refl) (λ t o. refl) (busy (place h) _ ok)
  kept (Truncate x os) g f ok = changing (entry (Truncate x os) g ∷ h) refl (λ t. refl) (λ t. refl) (λ t o. refl) (busy (place h) _ ok)
  kept Neutral g f ok = quiet (entry Neutral g ∷ h) refl (λ t. refl) (λ t. refl) (λ t o. refl)
  kept (Logical v) g f ok = quiet (entry (Logical v) g ∷ h) refl (λ t. refl) (λ t. refl) (λ t o. refl)
  kept (StreamStart x first) g f ok = record {
    at = refl;
    inside = (f.0, rw (eq-eqb x x refl));
    plain = a.plain ∙ sym (same_plain first);
    streams = go first (start_accepted (place h) first (is_open h x) (leb 16 (open_count h)) ok);
    table = Rows.unchanged L laws s.table h (entry (StreamStart x first) g ∷ h) a.table (λ t o. refl);
  }
    where
      same_plain : (v : Bool) → not (v && eqb x 0) && is_changed h 0 ≡ is_changed h 0
      same_plain true = rw (ne_eqb x 0 f.0)
      same_plain false = refl

      go : (v : Bool) → (is_open h x ≡ not v) × (v ≡ true → leb 16 (open_count h) ≡ false)
          → Streams.Agrees (streams_after (StreamStart x v) s.place s.streams) (entry (StreamStart x v) g ∷ h)
      go true k = Streams.opened s.streams h a.streams x f.0 g k.0 (ap (leb 16) (Streams.same_count s.streams h a.streams) ∙ k.1 refl)
      go false k = Streams.again s.streams h a.streams x f.0 g k.0
  kept StreamStop g f ok = record {
    at = refl;
    inside = tt;
    plain = a.plain;
    streams = Streams.unchanged s.streams h (entry StreamStop g ∷ h) a.streams (λ t. refl) (λ t z. refl);
    table = Rows.unchanged L laws s.table h (entry StreamStop g ∷ h) a.table (λ t o. refl);
  }
  kept (StreamCommit x) g f ok = let k = end_accepted (place h) (is_open h x) ok in record {
    at = a.at;
    inside = idle_inside (entry (StreamCommit x) g ∷ h) (place h) k.0;
    plain = a.plain;
    streams = Streams.closed s.streams h a.streams x f (entry (StreamCommit x) g ∷ h) (λ t. refl) (λ t. refl) k.1;
    table = Rows.releasing L laws s.table h (entry (StreamCommit x) g ∷ h) a.table x f (latest-commit h x g f);
  }
  kept (StreamAbort x sub) g f ok = go (eqb x sub) refl
    where
      go : (v : Bool) → eqb x sub ≡ v → Agrees L laws (state_by L s (StreamAbort x sub) (tag_of g)) (entry (StreamAbort x sub) g ∷ h)
      go true e = let k = end_accepted (place h) (is_open h x) ok in record {
        at = a.at;
        inside = idle_inside (entry (StreamAbort x sub) g ∷ h) (place h) k.0;
        plain = a.plain;
        streams = rw e (Streams.closed s.streams h a.streams x f (entry (StreamAbort x sub) g ∷ h) (λ t. rw e) (λ t. refl) k.1);
        table = rw e (Rows.dropping L laws s.table h (entry (StreamAbort x sub) g ∷ h) a.table x (λ t o. latest_abort h x sub g e f t o));
      }
      go false e = rw e (quiet (entry (StreamAbort x sub) g ∷ h) refl (λ t. rw e) (λ t. refl) (λ t o. rw e))
