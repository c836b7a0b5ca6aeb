-- A number in its bytes. Assumes nothing.
use Prim.Native.Nat.{ℕ, zero, suc, ◌^◌, ◌<◌}
use mathlib.Core.Bool.{Bool, true, false, cond}
use mathlib.Core.Path.{◌≡◌, refl}
use native.Mathlib.Omega.{arith}
use borrow.Author.Tests.{lt-ltb, ltb-true}
use lib.Dec.{ltb}
use Rattle.capi.specs.Flat.{in_bytes}

pub in_bytes-fits : (w n : ℕ) → n < 256 ^ w → in_bytes w n ≡ n
unfolding in_bytes
in_bytes-fits w n h = rw (lt-ltb n (256 ^ w) h)

some_room : (w : ℕ) → 0 < 256 ^ w
some_room zero = omega arith
some_room (suc w) = let h = some_room w in omega arith

pub in_bytes_small : (w n : ℕ) → in_bytes w n < 256 ^ w
unfolding in_bytes
in_bytes_small w n = go (ltb n (256 ^ w)) refl
  where
    go : (t : Bool) → ltb n (256 ^ w) ≡ t → cond t n 0 < 256 ^ w
    go true e = ltb-true n (256 ^ w) e
    go false e = some_room w
