-- What a step past a binary column finds. Assumes nothing.
use Prim.Native.Nat.{ℕ, ◌+◌, ◌≤◌}
use mathlib.Core.List.{List, [], ◌∷◌}
use mathlib.Core.Bool.{Bool, true, false, cond}
use mathlib.Core.Path.{◌≡◌, refl}
use native.Mathlib.Omega.{arith}
use lib.Dec.{eqb}
use lib.ListN.{length}
use Rattle.wire.specs.declared.Span.{Span}
use Rattle.wire.specs.Cursors.{Cursor, Taken}
use Rattle.std.specs.Prelude.{Ok, Err}
use Rattle.wire.specs.Fields.{number_field, letter_field, bytes_field, value_field}
use Rattle.wire.proofs.There.{no, bytes_inv, bytes_read}
use Rattle.columns.specs.declared.Position.{Position}
use Rattle.columns.specs.Steps.{over, gives, step_at, stood}
use Rattle.values.specs.Steps.{binary}

-- a value that was read lies in the list
inside-bytes : (xs : List ℕ) (n : ℕ) (c : Cursor) (e : ℕ) → (bytes_field n xs c).next ≡ Ok e → (bytes_field n xs c).value.start + (bytes_field n xs c).value.length ≤ length xs
unfolding bytes_field
inside-bytes xs n (Ok a) e q =
    let i = bytes_inv xs a n e q in
    let r = bytes_read xs a n i.0 in
    rw r i.0
inside-bytes xs n (Err r) e q = no refl q

pub inside : (xs : List ℕ) (c : Cursor) (e : ℕ) → (value_field xs c).next ≡ Ok e → (value_field xs c).value.start + (value_field xs c).value.length ≤ length xs
unfolding value_field
inside xs c e q = let l = number_field 4 0 0x7FFFFFFF 4 xs c in inside-bytes xs l.value l.next e q

-- what stands at a position with columns left
pub record Found (xs : List ℕ) (p : Position) (g : List ℕ) (e : ℕ) : Type 0 where
  pub start : ℕ
  pub count : ℕ
  pub is : g ≡ start ∷ count ∷ []
  pub lies : start + count ≤ length xs

pub found : (xs : List ℕ) (p : Position) (g : List ℕ) (e : ℕ) → step_at binary xs p ≡ gives g e → Found xs p g e
found xs p g e q = outer (eqb p.left 0) q
  where
    field : Taken Span
    field = value_field xs (letter_field (0x62 ∷ []) xs (Ok p.offset)).next

    inner : (c : Cursor) → field.next ≡ c → stood (field.value.start ∷ field.value.length ∷ []) c ≡ gives g e → Found xs p g e
    inner (Ok a) n q = record { start = field.value.start; count = field.value.length; is = (cc); lies = inside xs (letter_field (0x62 ∷ []) xs (Ok p.offset)).next a n }
    inner (Err r) n q = let z : ◌≡◌ {A = ℕ} 0 1 = cc in absurd (omega arith)

    outer : (b : Bool) → cond b over (stood (field.value.start ∷ field.value.length ∷ []) field.next) ≡ gives g e → Found xs p g e
    outer true q = let z : ◌≡◌ {A = ℕ} 0 1 = cc in absurd (omega arith)
    outer false q = inner field.next refl q
