-- The laws of big-endian numbers, over the width. Assumes nothing.
use Rattle.std.proofs.Common.{◌≡◌, ℕ, ◌+◌, ◌*◌, ◌^◌, ◌<◌, ◌≤◌, Bool, true, false, cond, leb, List, length, refl, pow-suc, add-one, arith, lit<, le-leb, leb-true}
use native.Mathlib.Nat.{pow-le-pow_right}
use Rattle.std.specs.Prelude.{Some, None}
use Rattle.wire.specs.Numbers.{be, word_at}

-- a number of k bytes with one byte more is a number of k + 1 bytes
pub more : (k : ℕ) {v b : ℕ} → v < 256 ^ k → b < 256 → v * 256 + b < 256 ^ (k + 1)
more k hv hb = rw (add-one, pow-suc) (omega arith)

-- eight bytes at most fit 64 bits
pub within : {k : ℕ} → k ≤ 8 → 256 ^ k ≤ 2 ^ 64
within h = pow-le-pow_right (lit< tt) h

module _ (k : ℕ) (xs : List ℕ) (at : ℕ) where
  pub word_there : at + k ≤ length xs → word_at k xs at ≡ Some (be k xs at)
  unfolding word_at
  word_there h = simp (le-leb (at + k) (length xs) h)

  -- a number that was read stands there
  pub word_value : {v : ℕ} → word_at k xs at ≡ Some v → at + k ≤ length xs
  unfolding word_at
  word_value {v} e = go (leb (at + k) (length xs)) refl e
    where
      go : (b : Bool) → leb (at + k) (length xs) ≡ b → cond b (Some (be k xs at)) None ≡ Some v → at + k ≤ length xs
      go true t e = leb-true (at + k) (length xs) t
      go false t e = let z : ◌≡◌ {A = ℕ} 0 1 = cc in absurd (omega arith)
