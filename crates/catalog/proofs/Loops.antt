-- A loop that goes through an array once and changes each element in its place: those before i are changed. Assumes nothing.
use mathlib.Core.Path.{◌≡◌}
use mathlib.Core.List.{List, ◌++◌, append_assoc, append-nil}
use Prim.Native.Nat.{ℕ, suc, ◌+◌, ◌≤◌, ◌<◌}
use native.Mathlib.Numerals.{add-one}
use native.Mathlib.Omega.{arith}
use lib.ListN.{length, take, drop, get_or, set, drop_of_length-le}
use lib.Seq.{drop-cons, take-suc-set, drop-set-lt, take_all}
use Rattle.wire.specs.Lists.{change}

module _ {A : Type 0} (f : A → A) (d : A) where
  pub change_turn : (l : List A) (i : ℕ) → i < length l
      → take (i + 1) (set l i (f (get_or l i d))) ++ change f (drop (i + 1) (set l i (f (get_or l i d)))) ≡ take i l ++ change f (drop i l)
  change_turn l i h =
      rw (add-one, take-suc-set l i (f (get_or l i d)) h, drop-set-lt (suc i) l i (f (get_or l i d)) (omega arith), drop-cons l i d, append_assoc)

  pub change_end : (l : List A) (i : ℕ) → length l ≤ i → take i l ++ change f (drop i l) ≡ l
  change_end l i h = rw (drop_of_length-le l {i = i} h, append-nil, take_all i l h)
