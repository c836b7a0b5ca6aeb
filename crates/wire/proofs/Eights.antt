-- Eight bytes at once: the number that they spell, and the test for a zero byte among them; over how many they are. Assumes nothing.
use Rattle.std.proofs.Common.{◌≡◌, ℕ, zero, suc, ◌+◌, ◌-◌, ◌*◌, ◌/◌, ◌%◌, ◌<◌, ◌≤◌, Bool, true, false, cond, not, ◌&&◌, ◌||◌, eqb, List, [], ◌∷◌, length, get_or, take, drop, sym, refl, ap, ◌∙◌, true≢false, le_of_suc-le-suc, not-suc-le-zero, arith, lit<, length-drop, drop-cons, drop-drop, eq-eqb, ne_eqb, eqb-true}
use borrow.Author.Tests.{eqb-false}
use lib.Bits.{bit_and, and_zero_r, and_lt, and_block}
use Rattle.wire.specs.Fields.{member, until_zero}
use Rattle.wire.specs.LowBytes.{low_bytes}
use Rattle.wire.proofs.Tests.{and_parts}

-- THE NUMBER

-- a byte below those of a number
low_more : (k v b : ℕ) → b < 256 → low_bytes (suc k) (v * 256 + b) ≡ b ∷ low_bytes k v
unfolding low_bytes
low_more k v b h =
    let d : (v * 256 + b) / 256 ≡ v = omega arith in
    let m : (v * 256 + b) % 256 ≡ b = omega arith in
    rw (d, m)

-- one byte before k bytes of a list
pub spells_more :
    (xs : List ℕ) (i k v : ℕ) → i < length xs → get_or xs i 0 < 256
    → low_bytes k v ≡ take k (drop (suc i) xs) → low_bytes (suc k) (v * 256 + get_or xs i 0) ≡ take (suc k) (drop i xs)
spells_more xs i k v h b e =
    low_more k v (get_or xs i 0) b ∙ ap (λ (ys : List ℕ). get_or xs i 0 ∷ ys) e ∙ sym (ap (λ (ys : List ℕ). take (suc k) ys) (drop-cons xs i 0 h))

-- the number that k bytes of a list spell, from place i + j on
unfoldable pub spelt : ℕ → List ℕ → ℕ → ℕ → ℕ
spelt zero xs i j = 0
spelt (suc k) xs i j = spelt k xs i (suc j) * 256 + get_or xs (i + j) 0

spelt_is :
    (k : ℕ) (xs : List ℕ) (i j : ℕ) → i + j + k ≤ length xs → ((p : ℕ) → get_or xs p 0 < 256)
    → low_bytes k (spelt k xs i j) ≡ take k (drop (i + j) xs)
unfolding low_bytes spelt
spelt_is zero xs i j h b = refl
spelt_is (suc k) xs i j h b =
    let place : i + suc j ≡ suc (i + j) = omega arith in
    spells_more xs (i + j) k (spelt k xs i (suc j)) (omega (arith, h)) (b (i + j)) (rw place at (spelt_is k xs i (suc j) (omega (arith, h)) b))

pub spells :
    (k : ℕ) (xs : List ℕ) (i n : ℕ) → i + k ≤ length xs → ((p : ℕ) → get_or xs p 0 < 256)
    → n ≡ spelt k xs i 0 → low_bytes k n ≡ take k (drop i xs)
spells k xs i n h b e =
    let place : i + 0 ≡ i = omega arith in
    rw e (rw place at (spelt_is k xs i 0 (omega (arith, h)) b))

-- THE TEST

-- 01, 80 and FF in each of k bytes
unfoldable pub units : ℕ → ℕ
units zero = 0
units (suc k) = units k * 256 + 1

unfoldable pub tops : ℕ → ℕ
tops zero = 0
tops (suc k) = tops k * 256 + 128

unfoldable pub ones : ℕ → ℕ
ones zero = 0
ones (suc k) = ones k * 256 + 255

-- c behind k bytes
unfoldable pub behind : ℕ → ℕ → ℕ
behind c zero = c
behind c (suc k) = behind c k * 256

-- the top bits of bytes that x and the complement of n both have
abbrev pub marks : ℕ → ℕ → ℕ → ℕ
marks k x n = bit_and (bit_and x (ones k - n)) (tops k)

-- those of upper bytes and of the lowest
marks_more :
    (k x n y d : ℕ) → n ≤ ones k → y < 256 → d < 256
    → marks (suc k) (x * 256 + y) (n * 256 + d) ≡ marks k x n * 256 + bit_and (bit_and y (255 - d)) 128
unfolding tops ones
marks_more k x n y d h hy hd =
    let rest : ones k * 256 + 255 - (n * 256 + d) ≡ (ones k - n) * 256 + (255 - d) = omega arith in
    rw rest (
    ap (λ (z : ℕ). bit_and z (tops k * 256 + 128)) (and_block 8 x (ones k - n) y (255 - d) hy (omega arith))
    ∙ and_block 8 (bit_and x (ones k - n)) (tops k) (bit_and y (255 - d)) 128 (and_lt 8 y (255 - d) hy (omega arith)) (lit< tt)
    )

all : ℕ → (ℕ → Bool) → Bool
all zero p = true
all (suc n) p = p n && all n p

all_at : (n : ℕ) (p : ℕ → Bool) → all n p ≡ true → (k : ℕ) → k < n → p k ≡ true
unfolding all
all_at zero p e k h = absurd (not-suc-le-zero h)
all_at (suc n) p e k h = go (eqb k n) refl (all_at n p (and_parts (p n) (all n p) e).1 k)
  where
    go : (b : Bool) → eqb k n ≡ b → (k < n → p k ≡ true) → p k ≡ true
    go true t below = ap p (eqb-true k n t) ∙ (and_parts (p n) (all n p) e).0
    go false t below = let other = eqb-false k n t in below (omega arith)

-- a byte and the complement of the next one never both have the top bit, by one computed test over the bytes
no_mark : (y : ℕ) → y < 255 → bit_and (bit_and y (254 - y)) 128 ≡ 0
unfolding all
no_mark y h = eqb-true _ _ (all_at 255 (λ (y : ℕ). eqb (bit_and (bit_and y (254 - y)) 128) 0) refl y h)

-- a number with a lowest byte of 0, compared with 0
at_front : (x y : ℕ) → y ≡ x * 256 → eqb y 0 ≡ eqb x 0
at_front x y e = go (eqb x 0) refl
  where
    go : (b : Bool) → eqb x 0 ≡ b → eqb y 0 ≡ eqb x 0
    go true t = let zero_is = eqb-true x 0 t in rw (t, eq-eqb y 0 (omega arith)) refl
    go false t = let other = eqb-false x 0 t in rw (t, ne_eqb y 0 (λ z. other (omega (arith, z)))) refl

-- where x is n less one in each byte, with c borrowed behind the last, there is a mark exactly if one of the bytes is 0: the lowest such byte
-- has one, and below it nothing is borrowed
pub zero_told : (k x n c : ℕ) → n ≤ ones k → x + units k ≡ n + behind c k → not (eqb (marks k x n) 0) ≡ member (low_bytes k n) 0
unfolding units tops ones behind member low_bytes
zero_told zero x n c h e = rw (and_zero_r (bit_and x (ones 0 - n))) refl
zero_told (suc k) x n c h e = go (eqb (n % 256) 0) refl (λ e'. zero_told k (x / 256) (n / 256) c (omega (arith, h)) e')
  where
    whole : marks (suc k) x n ≡ marks k (x / 256) (n / 256) * 256 + bit_and (bit_and (x % 256) (255 - n % 256)) 128
    whole =
        let x-is : x / 256 * 256 + x % 256 ≡ x = omega arith in
        let n_is : n / 256 * 256 + n % 256 ≡ n = omega arith in
        rw (x-is, n_is) at (marks_more k (x / 256) (n / 256) (x % 256) (n % 256) (omega (arith, h)) (omega arith) (omega arith))

    go :
        (b : Bool) → eqb (n % 256) 0 ≡ b
        → (x / 256 + units k ≡ n / 256 + behind c k → not (eqb (marks k (x / 256) (n / 256)) 0) ≡ member (low_bytes k (n / 256)) 0)
        → not (eqb (marks (suc k) x n) 0) ≡ eqb (n % 256) 0 || member (low_bytes k (n / 256)) 0
    go true t later =
        let d = eqb-true (n % 256) 0 t in
        let y : x % 256 ≡ 255 = omega (arith, e) in
        rw (t, ne_eqb (marks (suc k) x n) 0 (λ z. omega (arith, z, rw (d, y) at whole))) refl
    go false t later =
        let d = eqb-false (n % 256) 0 t in
        let y : x % 256 < 255 = omega (arith, e) in
        let low : 255 - n % 256 ≡ 254 - x % 256 = omega (arith, e) in
        let same = rw (low, no_mark (x % 256) y) at whole in
        rw (t, at_front (marks k (x / 256) (n / 256)) (marks (suc k) x n) (omega (arith, same))) (later (omega (arith, e)))

-- THE HUNT

-- k bytes with no zero byte among them are passed
past : (k : ℕ) (ys : List ℕ) → k ≤ length ys → member (take k ys) 0 ≡ false → until_zero ys ≡ k + until_zero (drop k ys)
unfolding member until_zero
past zero ys h e = omega arith
past (suc k) [] h e = absurd (not-suc-le-zero h)
past (suc k) (y ∷ ys) h e = go (eqb y 0) refl e (past k ys (le_of_suc-le-suc h))
  where
    go :
        (b : Bool) → eqb y 0 ≡ b → eqb y 0 || member (take k ys) 0 ≡ false
        → (member (take k ys) 0 ≡ false → until_zero ys ≡ k + until_zero (drop k ys))
        → cond (eqb y 0) 0 (suc (until_zero ys)) ≡ suc k + until_zero (drop k ys)
    go true t e later = absurd (true≢false (rw t at e))
    go false t e later = let l = later (rw t at e) in rw t (omega arith)

pub until_past :
    (k i : ℕ) (xs : List ℕ) → i + k ≤ length xs
    → member (take k (drop i xs)) 0 ≡ false → until_zero (drop i xs) ≡ k + until_zero (drop (i + k) xs)
until_past k i xs h e = rw (← drop-drop k i xs) (past k (drop i xs) (omega (arith, length-drop i xs)) e)
