-- Histories that the rules cannot tell apart: alike point by point. Assumes nothing.
use mathlib.Core.Path.{◌≡◌, refl, sym, ◌∙◌, ap, ap₂}
use mathlib.Core.List.{List, ◌∷◌}
use mathlib.Core.Bool.{Bool, cond}
use Prim.Native.Nat.{ℕ}
use lib.Dec.{eqb}
use Rattle.wire.specs.Lists.{tally, keep, distinct, Pair, pair, same_pair}
use Rattle.catalog.specs.Table.{is}
use Rattle.catalog.proofs.Opens.{is_eq, is_refl}
use Rattle.catalog.proofs.Tables.{same_eq, same_refl}
use Rattle.catalog.proofs.Counting.{bit, length_by_counts}
use Rattle.session.specs.declared.Place.{Place}
use Rattle.session.specs.Events.{Event}
use Rattle.session.specs.History.{Announced, is_announced, Given, entry, History, place_after, place, holder_at, open_after, is_open, started, open_count, changed_after, is_changed, own_after, own, common_after, common, latest, pairs, is_live, live_count}
use Rattle.session.specs.Rules.{rooms, sight_of, judge}
use Rattle.session.proofs.Streams.{open_tally}
use Rattle.session.proofs.Live.{live_tally}
use Rattle.session.proofs.Sights.{same-judged}

-- all that the rules ask of one holder t is the same
pub record AlikeAt (t : ℕ) (h k : History) : Type 0 where
  pub opened : is_open h t ≡ is_open k t
  pub changed : is_changed h t ≡ is_changed k t
  pub mine : (o : ℕ) → own h t o ≡ own k t o

-- all that the rules ask is the same
pub record Alike (h k : History) : Type 0 where
  pub at : place h ≡ place k
  pub each : (t : ℕ) → AlikeAt t h k
  pub shared : (o : ℕ) → common h o ≡ common k o

pub at_refl : (t : ℕ) (h : History) → AlikeAt t h h
at_refl t h = record { opened = refl; changed = refl; mine = λ o. refl }

pub at_sym : {t : ℕ} {h k : History} → AlikeAt t h k → AlikeAt t k h
at_sym a = record { opened = sym a.opened; changed = sym a.changed; mine = λ o. sym (a.mine o) }

pub at_trans : {t : ℕ} {h k l : History} → AlikeAt t h k → AlikeAt t k l → AlikeAt t h l
at_trans a b = record { opened = a.opened ∙ b.opened; changed = a.changed ∙ b.changed; mine = λ o. a.mine o ∙ b.mine o }

-- WHAT IS ALIKE STAYS ALIKE, whatever the message

pub at_after : {t : ℕ} {h k : History} → place h ≡ place k → AlikeAt t h k → (e : Event) (g : Given) → AlikeAt t (entry e g ∷ h) (entry e g ∷ k)
at_after {t} p a e g = record {
  opened = ap (open_after e t) a.opened;
  changed = ap₂ (λ (q : Place) (b : Bool). changed_after e q t b) p a.changed;
  mine = λ o. ap₂ (λ (q : Place) (s : Announced). own_after e g q t o s) p (a.mine o);
}

pub alike_after : {h k : History} → Alike h k → (e : Event) (g : Given) → Alike (entry e g ∷ h) (entry e g ∷ k)
alike_after a e g = record {
  at = ap (place_after e) a.at;
  each = λ t. at_after a.at (a.each t) e g;
  shared = λ o. λ i. common_after e g (a.at i) (λ t. (a.each t).mine o i) o (a.shared o i);
}

-- THE COUNTS follow from the tests, of any two histories

pub same_opens : (h k : History) → ((t : ℕ) → is_open h t ≡ is_open k t) → open_count h ≡ open_count k
same_opens h k e =
    length_by_counts is is_eq is_refl (keep (is_open h) (distinct is (started h))) (keep (is_open k) (distinct is (started k)))
    (λ t. open_tally h t ∙ ap bit (e t) ∙ sym (open_tally k t))

pub same_lives : (h k : History) → ((t o : ℕ) → is_announced (latest h t o) ≡ is_announced (latest k t o)) → live_count h ≡ live_count k
same_lives h k e = length_by_counts same_pair same_eq same_refl (lives h) (lives k) each
  where
    lives : History → List Pair
    lives l = keep (is_live l) (distinct same_pair (pairs l))

    each : (q : Pair) → tally (same_pair q) (lives h) ≡ tally (same_pair q) (lives k)
    each (pair t o) = live_tally h t o ∙ ap bit (e t o) ∙ sym (live_tally k t o)

-- THE SAME ANSWER

pub same-latest : (h k : History) (t o : ℕ) → own h t o ≡ own k t o → common h o ≡ common k o → latest h t o ≡ latest k t o
same-latest h k t o m c = ap₂ (λ (x y : Announced). cond (eqb t 0) x y) c m

module _ {h k : History} (a : Alike h k) where
  each-latest : (t o : ℕ) → latest h t o ≡ latest k t o
  each-latest t o = same-latest h k t o ((a.each t).mine o) (a.shared o)

  pub alike_opens : open_count h ≡ open_count k
  alike_opens = same_opens h k (λ t. (a.each t).opened)

  pub alike_lives : live_count h ≡ live_count k
  alike_lives = same_lives h k (λ t o. ap is_announced (each-latest t o))

  pub alike_judged : (e : Event) → judge rooms h e ≡ judge rooms k e
  alike_judged = same-judged rooms (sight_of h) (sight_of k) (record {
    place = a.at;
    opened = λ t. (a.each t).opened;
    open_count = alike_opens;
    changed = (a.each (holder_at (place h))).changed ∙ ap (λ (p : Place). is_changed k (holder_at p)) a.at;
    latest = each-latest;
    live_count = alike_lives;
  })
