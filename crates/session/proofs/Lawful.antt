-- What the list theorem needs of a layout of the announcements, and that the session's has it. Assumes nothing.
use mathlib.Core.Path.{◌≡◌, refl, sym, ◌∙◌, ap, ap₂}
use mathlib.Core.List.{List}
use mathlib.Core.Bool.{Bool, true, false, cond, ◌&&◌}
use Prim.Native.Nat.{ℕ}
use lib.Dec.{eqb, leb}
use lib.ListN.{length}
use Rattle.std.specs.Prelude.{Option, Some, None, is_some}
use Rattle.std.specs.Option.{option_or as or}
use Rattle.wire.specs.Lists.{Pair, pair, same_pair, tally}
use Rattle.catalog.specs.declared.announcements.Announcement.{Announcement}
use Rattle.catalog.specs.Table.{announcement}
use Rattle.catalog.specs.Tables.{Table, lookup, used_in, put_in, drop_in, release_in}
use Rattle.catalog.proofs.Counting.{bit}
use Rattle.catalog.proofs.Tables as law
use Rattle.session.proofs.Visible.{found_announced}
use Rattle.session.specs.State.{announced_by, held_in, Layout, sorted}
use Rattle.session.proofs.Formed.{NonZero, Id}
use Rattle.session.specs.History.{unannounced, announced, is_announced, or_else}

pub record Lawful (L : Layout) : Type 1 where
  -- what holds of the table of every session that was started fresh
  pub Sound : L.Rows → Type 0
  pub fresh_sound : Sound L.none
  pub fresh_latest : (t o : ℕ) → L.find L.none t o ≡ unannounced
  -- an announcement, where there is room
  pub put_sound : (r : L.Rows) → Sound r → (x n g i c : ℕ) → Id n → (is_announced (L.find r x n) ≡ false → leb 256 (L.used r) ≡ false) → Sound (L.put r x n g i c)
  pub put-latest : (r : L.Rows) → Sound r → (x n g i c : ℕ) → Id n → (is_announced (L.find r x n) ≡ false → leb 256 (L.used r) ≡ false) → (t o : ℕ)
      → L.find (L.put r x n g i c) t o ≡ cond (eqb x t && eqb n o) (announced g i c) (L.find r t o)
  -- a holder is gone
  pub drop_sound : (r : L.Rows) → Sound r → (x : ℕ) → Sound (L.discard r x)
  pub drop-latest : (r : L.Rows) → Sound r → (x t o : ℕ) → L.find (L.discard r x) t o ≡ cond (eqb x t) unannounced (L.find r t o)
  -- a holder's become common
  pub release_sound : (r : L.Rows) → Sound r → (x : ℕ) → NonZero x → Sound (L.release r x)
  pub release-latest : (r : L.Rows) → Sound r → (x : ℕ) → NonZero x → (t o : ℕ)
      → L.find (L.release r x) t o ≡ cond (eqb t 0) (or_else (L.find r x o) (L.find r t o)) (cond (eqb x t) unannounced (L.find r t o))
  -- how many: as long as a list that has each pair that is found, once, and no other
  pub used_by_counts : (r : L.Rows) → Sound r → (l : List Pair) → ((t o : ℕ) → tally (same_pair (pair t o)) l ≡ bit (is_announced (L.find r t o))) → length l ≡ L.used r

-- WHAT IS SEEN of what the table finds

seen_cond : (v : Bool) (a b : Option Announcement) → announced_by (cond v a b) ≡ cond v (announced_by a) (announced_by b)
seen_cond true a b = refl
seen_cond false a b = refl

seen_or : (a b : Option Announcement) → announced_by (or a b) ≡ or_else (announced_by a) (announced_by b)
seen_or None b = refl
seen_or (Some a) b = refl

-- THE SESSION'S LAYOUT
module _ (r : Table) (a : law.Sound r) where
  room-is : (x n : ℕ) → (is_announced (held_in r x n) ≡ false → leb 256 (used_in r) ≡ false) → is_some (lookup r x n) ≡ false → leb 256 (used_in r) ≡ false
  room-is x n room e = room (sym (found_announced (lookup r x n)) ∙ e)

  put-latest : (x n g i c : ℕ) → Id n → (is_announced (held_in r x n) ≡ false → leb 256 (used_in r) ≡ false) → (t o : ℕ)
      → held_in (put_in r x n g i c) t o ≡ cond (eqb x t && eqb n o) (announced g i c) (held_in r t o)
  put-latest x n g i c z room t o =
      ap announced_by (law.put-lookup r a x n g i c z.1 (room-is x n room) t o) ∙ seen_cond (eqb x t && eqb n o) (Some (announcement g i c)) (lookup r t o)

  drop-latest : (x t o : ℕ) → held_in (drop_in r x) t o ≡ cond (eqb x t) unannounced (held_in r t o)
  drop-latest x t o = ap announced_by (law.drop-lookup r a x t o) ∙ seen_cond (eqb x t) None (lookup r t o)

  release-latest : (x : ℕ) → NonZero x → (t o : ℕ)
      → held_in (release_in r x) t o ≡ cond (eqb t 0) (or_else (held_in r x o) (held_in r t o)) (cond (eqb x t) unannounced (held_in r t o))
  release-latest x z t o =
      ap announced_by (law.release-lookup r a x z t o)
      ∙ seen_cond (eqb t 0) (or (lookup r x o) (lookup r t o)) (cond (eqb x t) None (lookup r t o))
      ∙ ap₂ (cond (eqb t 0)) (seen_or (lookup r x o) (lookup r t o)) (seen_cond (eqb x t) None (lookup r t o))

pub sorted_lawful : Lawful sorted
sorted_lawful = record {
  Sound = law.Sound;
  fresh_sound = law.fresh_sound;
  fresh_latest = λ t o. ap announced_by (law.fresh_lookup t o);
  put_sound = λ r a x n g i c z room. law.put_sound r a x n g i c z.1 (room-is r a x n room);
  put-latest = put-latest;
  drop_sound = law.drop_sound;
  drop-latest = drop-latest;
  release_sound = λ r a x z. law.release_sound r a x;
  release-latest = release-latest;
  used_by_counts = λ r a l counts. law.used_by_counts r a l (λ t o. counts t o ∙ ap bit (sym (found_announced (lookup r t o))));
}

pub sorted_sound : (r : Table) → sorted_lawful.Sound r → law.Sound r
unfolding sorted_lawful
sorted_sound r a = a
