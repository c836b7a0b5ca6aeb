-- The OIDs of a Truncate, one after the other: whether each is visible, and what the first sees. Assumes nothing.
use Prim.Native.Nat.{ℕ, zero, suc, ◌+◌, ◌-◌, ◌<◌, ◌≤◌}
use mathlib.Core.List.{List}
use mathlib.Core.Bool.{Bool, true, false, ◌&&◌}
use mathlib.Core.Path.{◌≡◌, sym, ◌∙◌}
use native.Mathlib.Omega.{arith}
use Rattle.wire.specs.Cursors.{Cursor, Taken}
use Rattle.message.specs.Layout.{id, number_of}
use Rattle.session.specs.Events.{oids_at}
use Rattle.session.specs.History.{Announced, is_announced}
use Rattle.session.specs.Rules.{all_seen}

module _ (see : ℕ → Announced) (xs : List ℕ) (c : Cursor) where
  pub seen_start : (n : ℕ) {whole : Bool} → all_seen see (oids_at n xs c) ≡ whole → all_seen see (oids_at (n - 0) xs c) ≡ whole
  seen_start n inv = let z : n - 0 ≡ n = omega arith in rw z inv

  pub seen_done : (n i : ℕ) {whole : Bool} → n ≤ i → all_seen see (oids_at (n - i) xs c) ≡ whole → true ≡ whole
  seen_done n i h inv = let z : n - i ≡ 0 = omega arith in rw z at inv

  -- one that was read, and what it sees
  module _ (f : Taken ℕ) (e : f ≡ number_of id xs c) (l : Announced) (q : l ≡ see f.value) where
    module _ (b : Bool) (k : b ≡ is_announced l) where
      more : (n : ℕ) → 0 < n → all_seen see (oids_at n xs c) ≡ b && all_seen see (oids_at (n - 1) xs f.next)
      more zero h = absurd (omega arith)
      more (suc n) h = let s : suc n - 1 ≡ n = omega arith in rw (k, q, e, s)

      pub seen_turn : (n i : ℕ) {whole : Bool} → i < n → b ≡ true → all_seen see (oids_at (n - i) xs c) ≡ whole → all_seen see (oids_at (n - (i + 1)) xs f.next) ≡ whole
      seen_turn n i h t inv = let p : n - (i + 1) ≡ n - i - 1 = omega arith in rw p (sym (rw t at (more (n - i) (omega arith))) ∙ inv)

      pub seen_miss : (n i : ℕ) {whole : Bool} → i < n → b ≡ false → all_seen see (oids_at (n - i) xs c) ≡ whole → false ≡ whole
      seen_miss n i h t inv = sym (rw t at (more (n - i) (omega arith))) ∙ inv
