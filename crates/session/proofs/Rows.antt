-- The table of a session agrees with the announcements that history gives: what it holds is what history says. Assumes nothing.
use mathlib.Core.Path.{◌≡◌, refl, sym, ◌∙◌, ap, ap₂}
use mathlib.Core.List.{[]}
use mathlib.Core.Bool.{Bool, true, false, cond, ◌&&◌}
use Prim.Native.Nat.{ℕ}
use lib.Dec.{eqb, leb}
use Rattle.session.specs.State.{Layout}
use Rattle.session.specs.History.{Announced, unannounced, announced, is_announced, or_else, History, latest}
use Rattle.session.proofs.Formed.{NonZero, Id}
use Rattle.session.proofs.Lawful.{Lawful}

pub record Agrees (L : Layout) (laws : Lawful L) (r : L.Rows) (h : History) : Type 0 where
  pub sound : laws.Sound r
  pub same : (t o : ℕ) → L.find r t o ≡ latest h t o

-- AFTER EACH MESSAGE

nothing_yet : (t o : ℕ) → latest [] t o ≡ unannounced
nothing_yet t o = go (eqb t 0)
  where
    go : (v : Bool) → ◌≡◌ {A = Announced} (cond v unannounced unannounced) unannounced
    go true = refl
    go false = refl

pub fresh : (L : Layout) (laws : Lawful L) → Agrees L laws L.none []
fresh L laws = record { sound = laws.fresh_sound; same = λ t o. laws.fresh_latest t o ∙ sym (nothing_yet t o) }

module _ (L : Layout) (laws : Lawful L) (r : L.Rows) (h h' : History) (a : Agrees L laws r h) where
  -- a message that changes no announcement
  pub unchanged : ((t o : ℕ) → latest h' t o ≡ latest h t o) → Agrees L laws r h'
  unchanged after = record { sound = a.sound; same = λ t o. a.same t o ∙ sym (after t o) }

  -- an announcement
  pub putting : (x n g i c : ℕ) → Id n → ((t o : ℕ) → latest h' t o ≡ cond (eqb x t && eqb n o) (announced g i c) (latest h t o))
      → (is_announced (L.find r x n) ≡ false → leb 256 (L.used r) ≡ false) → Agrees L laws (L.put r x n g i c) h'
  putting x n g i c small after room = record {
    sound = laws.put_sound r a.sound x n g i c small room;
    same = λ t o. laws.put-latest r a.sound x n g i c small room t o ∙ ap (cond (eqb x t && eqb n o) (announced g i c)) (a.same t o) ∙ sym (after t o);
  }

  -- a full abort of x
  pub dropping : (x : ℕ) → ((t o : ℕ) → latest h' t o ≡ cond (eqb x t) unannounced (latest h t o)) → Agrees L laws (L.discard r x) h'
  dropping x after = record {
    sound = laws.drop_sound r a.sound x;
    same = λ t o. laws.drop-latest r a.sound x t o ∙ ap (cond (eqb x t) unannounced) (a.same t o) ∙ sym (after t o);
  }

  -- x's commit
  pub releasing : (x : ℕ) → NonZero x → ((t o : ℕ) → latest h' t o ≡ cond (eqb t 0) (or_else (latest h x o) (latest h t o)) (cond (eqb x t) unannounced (latest h t o))) → Agrees L laws (L.release r x) h'
  releasing x nz after = record {
    sound = laws.release_sound r a.sound x nz;
    same = λ t o. laws.release-latest r a.sound x nz t o
        ∙ ap₂ (λ (m w : Announced). cond (eqb t 0) (or_else m w) (cond (eqb x t) unannounced w)) (a.same x o) (a.same t o) ∙ sym (after t o);
  }
