-- The open streamed transactions of a session agree with those that history has open. Assumes nothing.
use mathlib.Core.Path.{◌≡◌, refl, sym, ◌∙◌, ap}
use mathlib.Core.List.{[], ◌∷◌}
use mathlib.Core.Bool.{Bool, true, false, cond, not, ◌||◌, ◌&&◌, false≢true}
use Prim.Native.Nat.{ℕ}
use lib.Dec.{eqb, leb}
use borrow.Author.Tests.{eqb-true}
use Rattle.wire.specs.Lists.{any, tally, keep, distinct}
use Rattle.catalog.specs.Table.{is}
use Rattle.catalog.specs.declared.streams.Streams.{Streams}
use Rattle.catalog.specs.Opens.{fresh_streams, is_open_in, open_count_in, changed_in, open_in, close_in, mark_in}
use Rattle.catalog.proofs.Counting.{bit, tally-keep, tally-distinct}
use Rattle.catalog.proofs.Opens as law
use Rattle.catalog.proofs.Opens.{Sound, is_eq, is_refl}
use Rattle.session.specs.Events.{Begin, Commit, Origin, Relation, Change, Truncate, Neutral, Logical, StreamStart, StreamStop, StreamCommit, StreamAbort}
use Rattle.session.specs.History.{Given, entry, History, is_open, started, open_count, is_changed}
use Rattle.wire.proofs.Tests.{and_parts}
use Rattle.session.proofs.Formed.{NonZero}

pub record Agrees (s : Streams) (h : History) : Type 0 where
  pub sound : Sound s
  pub same : (t : ℕ) → is_open_in s t ≡ is_open h t
  pub marks : (t : ℕ) → NonZero t → is_open h t ≡ true → changed_in s t ≡ is_changed h t

-- THE ROOM OF 16

-- an open transaction was started
started_open : (h : History) (t : ℕ) → is_open h t ≡ true → any (is t) (started h) ≡ true
started_open [] t e = absurd (false≢true e)
started_open (entry (Begin l x) g ∷ h) t e = started_open h t e
started_open (entry (Commit l) g ∷ h) t e = started_open h t e
started_open (entry Origin g ∷ h) t e = started_open h t e
started_open (entry (Relation o i c) g ∷ h) t e = started_open h t e
started_open (entry (Change x o ts) g ∷ h) t e = started_open h t e
started_open (entry (Truncate x os) g ∷ h) t e = started_open h t e
started_open (entry Neutral g ∷ h) t e = started_open h t e
started_open (entry (Logical v) g ∷ h) t e = started_open h t e
started_open (entry (StreamStart x first) g ∷ h) t e = go (eqb x t) refl (started_open h t)
  where
    go : (v : Bool) → eqb x t ≡ v → (is_open h t ≡ true → any (is t) (started h) ≡ true) → eqb x t || any (is t) (started h) ≡ true
    go true w r = rw w
    go false w r = rw w (r (rw w at e))
started_open (entry StreamStop g ∷ h) t e = started_open h t e
started_open (entry (StreamCommit x) g ∷ h) t e = started_open h t (and_parts (not (eqb x t)) (is_open h t) e).1
started_open (entry (StreamAbort x sub) g ∷ h) t e = started_open h t (and_parts (not (eqb x sub && eqb x t)) (is_open h t) e).1

-- the open ones, each once
pub open_tally : (h : History) (t : ℕ) → tally (is t) (keep (is_open h) (distinct is (started h))) ≡ bit (is_open h t)
open_tally h t =
    tally-keep is is_eq is_refl (is_open h) t (distinct is (started h))
    ∙ ap (λ (n : ℕ). cond (is_open h t) n 0) (tally-distinct is is_eq is_refl t (started h))
    ∙ go (is_open h t) refl
  where
    go : (v : Bool) → is_open h t ≡ v → cond v (bit (any (is t) (started h))) 0 ≡ bit v
    go true e = rw (started_open h t e)
    go false e = refl

pub same_count : (s : Streams) (h : History) → Agrees s h → open_count_in s ≡ open_count h
same_count s h a = sym (law.count_by_counts s a.sound (keep (is_open h) (distinct is (started h))) (λ t. open_tally h t ∙ ap bit (sym (a.same t))))

-- AFTER EACH MESSAGE

pub fresh : Agrees fresh_streams []
fresh = record { sound = law.fresh_sound; same = law.fresh_open; marks = λ t z e. absurd (false≢true e) }

-- a message that neither opens, marks nor ends a streamed transaction
pub unchanged : (s : Streams) (h h' : History) → Agrees s h → ((t : ℕ) → is_open h' t ≡ is_open h t) → ((t : ℕ) → NonZero t → is_changed h' t ≡ is_changed h t) → Agrees s h'
unchanged s h h' a same mark = record {
  sound = a.sound;
  same = λ t. a.same t ∙ sym (same t);
  marks = λ t z e. a.marks t z (sym (same t) ∙ e) ∙ sym (mark t z);
}

module _ (s : Streams) (h : History) (a : Agrees s h) (x : ℕ) (nz : NonZero x) where
  -- a first S
  pub opened : (g : Given) → is_open h x ≡ false → leb 16 (open_count_in s) ≡ false → Agrees (open_in s x) (entry (StreamStart x true) g ∷ h)
  opened g shut room = record {
    sound = law.open_sound s a.sound x nz (a.same x ∙ shut) room;
    same = λ t. law.open_open s a.sound x nz (a.same x ∙ shut) room t ∙ ap (λ (v : Bool). eqb x t || v) (a.same t);
    marks = λ t z e. law.open_changed s a.sound x nz (a.same x ∙ shut) room t z ∙ go t z (eqb x t) e;
  }
    where
      go : (t : ℕ) → NonZero t → (v : Bool) → v || is_open h t ≡ true → not v && changed_in s t ≡ not v && is_changed h t
      go t z true e = refl
      go t z false e = a.marks t z e

  -- a further S
  pub again : (g : Given) → is_open h x ≡ true → Agrees s (entry (StreamStart x false) g ∷ h)
  again g opened = unchanged s h (entry (StreamStart x false) g ∷ h) a (λ t. go t (eqb x t) refl) (λ t z. refl)
    where
      go : (t : ℕ) (v : Bool) → eqb x t ≡ v → eqb x t || is_open h t ≡ is_open h t
      go t true e = let o : is_open h t ≡ true = rw (eqb-true x t e) at opened in rw (e, o)
      go t false e = rw e

  -- x's end: any history that has x closed and the others as they were
  pub closed : (h' : History) → ((t : ℕ) → is_open h' t ≡ not (eqb x t) && is_open h t) → ((t : ℕ) → is_changed h' t ≡ is_changed h t)
      → is_open h x ≡ true → Agrees (close_in s x) h'
  closed h' after mark opened = record {
    sound = law.close_sound s a.sound x nz (a.same x ∙ opened);
    same = λ t. law.close_open s a.sound x nz (a.same x ∙ opened) t ∙ ap (λ (v : Bool). not (eqb x t) && v) (a.same t) ∙ sym (after t);
    marks = λ t z e. go t z (eqb x t) refl (sym (after t) ∙ e) ∙ sym (mark t);
  }
    where
      go : (t : ℕ) → NonZero t → (v : Bool) → eqb x t ≡ v → not (eqb x t) && is_open h t ≡ true → changed_in (close_in s x) t ≡ is_changed h t
      go t z true e q = absurd (false≢true (rw e at q))
      go t z false e q = law.close_changed s a.sound x nz (a.same x ∙ opened) t z e ∙ a.marks t z (rw e at q)

  -- a change in a block of x
  pub marking_x : (h' : History) → ((t : ℕ) → is_open h' t ≡ is_open h t) → ((t : ℕ) → is_changed h' t ≡ eqb x t || is_changed h t) → is_open h x ≡ true → Agrees (mark_in s x) h'
  marking_x h' after mark opened = record {
    sound = law.mark_sound s a.sound x nz (a.same x ∙ opened);
    same = λ t. law.mark_open s a.sound x nz (a.same x ∙ opened) t ∙ a.same t ∙ sym (after t);
    marks = λ t z e. law.mark_changed s a.sound x nz (a.same x ∙ opened) t ∙ ap (λ (v : Bool). eqb x t || v) (a.marks t z (sym (after t) ∙ e)) ∙ sym (mark t);
  }
