-- Two sights that are the same, point by point, give a message the same answer. Assumes nothing.
use mathlib.Core.Path.{◌≡◌, refl, ◌∙◌, ap, ap₂}
use mathlib.Core.List.{List, [], ◌∷◌}
use mathlib.Core.Bool.{Bool, not, ◌&&◌}
use Prim.Native.Nat.{ℕ}
use Rattle.session.specs.declared.Place.{Place}
use Rattle.session.specs.declared.Place.TheVariants.{Idle, Transaction, Block}
use Rattle.session.specs.Events.{Event, Begin, Commit, Origin, Relation, Change, Truncate, Neutral, Logical, StreamStart, StreamStop, StreamCommit, StreamAbort}
use Rattle.session.specs.History.{Announced, is_announced, or_else, is_idle, holder_at}
use Rattle.session.specs.Rules.{Rooms, Sight, visible_at, visible, test, shaped, all_seen, first_seen, rule_begin, rule_commit, rule_origin, rule_change, rule_neutral, rule_logical, rule_stream_stop, rule_stream_end, judge_by}

-- a rule asks for a change in the transaction of its own place only
pub record Same (a b : Sight) : Type 0 where
  pub place : a.place ≡ b.place
  pub opened : (t : ℕ) → a.opened t ≡ b.opened t
  pub open_count : a.open_count ≡ b.open_count
  pub changed : a.changed (holder_at a.place) ≡ b.changed (holder_at b.place)
  pub latest : (t o : ℕ) → a.latest t o ≡ b.latest t o
  pub live_count : a.live_count ≡ b.live_count

module _ (r : Rooms) (a b : Sight) (s : Same a b) where
  same-visible : (o : ℕ) → visible a o ≡ visible b o
  same-visible o = ap (λ (p : Place). visible_at p (λ t. a.latest t o)) s.place ∙ go b.place
    where
      go : (p : Place) → visible_at p (λ t. a.latest t o) ≡ visible_at p (λ t. b.latest t o)
      go Idle = refl
      go (Transaction l) = s.latest 0 o
      go (Block x) = ap₂ or_else (s.latest x o) (s.latest 0 o)

  all_visible : (os : List ℕ) → all_seen (visible a) os ≡ all_seen (visible b) os
  all_visible [] = refl
  all_visible (o ∷ os) = ap₂ (λ (x : Announced) (v : Bool). is_announced x && v) (same-visible o) (all_visible os)

  first-visible : (os : List ℕ) → first_seen (visible a) os ≡ first_seen (visible b) os
  first-visible [] = refl
  first-visible (o ∷ os) = same-visible o

  -- whether the holder of the place has an announcement
  same_live : (o : ℕ) → is_announced (a.latest (holder_at a.place) o) ≡ is_announced (b.latest (holder_at b.place) o)
  same_live o = ap is_announced (s.latest (holder_at a.place) o ∙ ap (λ (p : Place). b.latest (holder_at p) o) s.place)

  pub same-judged : (e : Event) → judge_by r a e ≡ judge_by r b e
  same-judged (Begin l x) = ap₂ rule_begin s.place (s.opened x)
  same-judged (Commit l) = ap (λ (p : Place). rule_commit p l) s.place
  same-judged Origin = ap₂ rule_origin s.place s.changed
  same-judged (Relation o i c) = rw (same_live o, s.place, s.live_count)
  same-judged (Change x o ts) = ap₂ (λ (p : Place) (k : Announced). rule_change p k ts) s.place (same-visible o)
  same-judged (Truncate x os) =
      ap (λ (p : Place). test (not (is_idle p)) 7 (test (all_seen (visible a) os) 9 (shaped (first_seen (visible a) os) []))) s.place
      ∙ ap₂ (λ (v : Bool) (k : Announced). test (not (is_idle b.place)) 7 (test v 9 (shaped k []))) (all_visible os) (first-visible os)
  same-judged Neutral = ap rule_neutral s.place
  same-judged (Logical v) = ap (λ (p : Place). rule_logical p v) s.place
  same-judged (StreamStart x first) = rw (s.place, s.opened x, s.open_count)
  same-judged StreamStop = ap rule_stream_stop s.place
  same-judged (StreamCommit x) = ap₂ rule_stream_end s.place (s.opened x)
  same-judged (StreamAbort x sub) = ap₂ rule_stream_end s.place (s.opened x)
