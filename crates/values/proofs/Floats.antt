-- Bit patterns of floats, once over the format. Assumes nothing.
use Prim.Native.Nat.{ℕ, ◌*◌, ◌%◌, ◌<◌, ◌≤◌}
use mathlib.Core.Path.{◌≡◌, refl, sym, subst, ◌∙◌, ap}
use mathlib.Core.Bool.{Bool, true, false, not, cond}
use borrow.Author.Tests.{lt-ltb, le-ltb}
use lib.Dec.{T}
use lib.Ieee.{Float, nan, inf, fin, Format, ones, hid, top, fits, of_bits, to_bits, nan_bits, is_nan, ne}
use lib.Ieee.Bits.{nan_bits_is, nan_bits_above, to_bits-of_bits, of_bits-to_bits}
use lib.Ieee.Compare.{differs_from_itself, nan_differs}
use Rattle.values.specs.declared.Value.{Value}
use Rattle.values.specs.Types.{float_of}

-- THE TESTS OF THE CODE

-- without the sign, a NaN's pattern is above the infinity's
pub above : (f : Format) (n : ℕ) → ones f * hid f < n % top f → nan_bits f n ≡ true
above f n h = nan_bits_above f n ∙ lt-ltb _ _ h

pub below : (f : Format) (n : ℕ) → n % top f ≤ ones f * hid f → nan_bits f n ≡ false
below f n h = nan_bits_above f n ∙ le-ltb _ _ h

pub no_nan : {b : Bool} → b ≡ false → T (not b)
no_nan e = subst (λ (b : Bool). T (not b)) (sym e) tt

-- a float that differs from itself is the NaN, and any other is none
pub differs : (x : Float) → ne x x ≡ true → x ≡ nan
differs x e = differs_from_itself x (subst T (sym e) tt)

pub equals : (x : Float) → ne x x ≡ false → T (not (is_nan x))
unfolding is_nan
equals nan e = subst T (sym nan_differs ∙ e) tt
equals (inf s) e = tt
equals (fin s m x) e = tt

-- BOTH ROUND TRIPS

module _ (f : Format) (number : Float → Value) (pattern : ℕ → Value) where
  -- what is read from a pattern has the bits of the pattern, whatever says the bits of the two cases
  pub bits_back :
      {A : Type 0} (bits : Value → A) (is : ℕ → A) (n : ℕ) → ((x : Float) → bits (number x) ≡ is (to_bits f x)) → ((k : ℕ) → bits (pattern k) ≡ is k) → n < 2 * top f
      → bits (float_of f number pattern n) ≡ is n
  bits_back {A} bits is n hx hn h = go (nan_bits f n) refl
    where
      go : (b : Bool) → nan_bits f n ≡ b → bits (cond b (pattern n) (number (of_bits f n))) ≡ is n
      go true e = hn n
      go false e = hx (of_bits f n) ∙ ap is (to_bits-of_bits f n h (no_nan (sym (nan_bits_is f n) ∙ e)))

  -- the bits of a float that is no NaN are read as that float
  pub float_back : (x : Float) → T (fits f x) → is_nan x ≡ false → float_of f number pattern (to_bits f x) ≡ number x
  float_back x h e =
      let b = of_bits-to_bits f x h in
      let t : nan_bits f (to_bits f x) ≡ false = nan_bits_is f (to_bits f x) ∙ ap is_nan b ∙ e in
      rw (t, b)

  -- and a NaN's pattern as that pattern
  pub pattern_back : (n : ℕ) → nan_bits f n ≡ true → float_of f number pattern n ≡ pattern n
  pattern_back n e = rw e
