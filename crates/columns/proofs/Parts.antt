-- The cases of a part. Assumes nothing.
use Prim.Native.Nat.{ℕ, ◌+◌, ◌≤◌}
use mathlib.Core.List.{List}
use mathlib.Core.Bool.{Bool, true, false, cond}
use mathlib.Core.Path.{◌≡◌, refl}
use borrow.Author.Tests.{le-leb, leb-true}
use lib.Dec.{leb}
use lib.ListN.{length}
use Rattle.wire.specs.declared.Span.{Span}
use Rattle.columns.specs.Parts.{empty_span, span_within}

module _ (xs : List ℕ) (s : Span) where
  pub there : s.start + s.length ≤ length xs → span_within xs s ≡ s
  unfolding span_within
  there h = rw (le-leb (s.start + s.length) (length xs) h)

  -- a span that lies in the bytes only where it is the empty one itself
  pub lacking : (s.start + s.length ≤ length xs → (s.start ≡ 0) × (s.length ≡ 0)) → span_within xs s ≡ empty_span
  unfolding span_within
  lacking h = go (leb (s.start + s.length) (length xs)) refl
    where
      go : (t : Bool) → leb (s.start + s.length) (length xs) ≡ t → cond t s empty_span ≡ empty_span
      go true t = let e = h (leb-true _ _ t) in λ i. record { start = e.0 i; length = e.1 i }
      go false t = refl
