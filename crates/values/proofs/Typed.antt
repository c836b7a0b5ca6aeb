-- The cases of reading a value by its type, and of a step. Assumes nothing.
use Prim.Native.Nat.{ℕ, ◌+◌, ◌-◌, ◌≤◌}
use mathlib.Core.List.{List}
use mathlib.Core.Bool.{Bool, true, false, cond, ◌||◌}
use mathlib.Core.Path.{◌≡◌, refl, sym, ◌∙◌, ap}
use native.Mathlib.Omega.{arith}
use borrow.Author.Tests.{eq-eqb, ne_eqb, eqb-true, le-leb}
use lib.Dec.{eqb, leb}
use lib.ListN.{length}
use Rattle.std.specs.Prelude.{Some, None, Ok, Err}
use Rattle.wire.specs.declared.Span.{Span}
use Rattle.wire.specs.declared.Refusal.{Refusal}
use Rattle.wire.specs.Cursors.{Cursor, refuse, Taken}
use Rattle.wire.specs.Numbers.{be}
use Rattle.wire.specs.Fields.{number_field, no_number, position_of}
use Rattle.wire.specs.Readers.{given_at}
use Rattle.wire.proofs.Numbers.{word_there}
use Rattle.wire.proofs.There.{no, same_refusal}
use Rattle.columns.specs.declared.Position.{Position}
use Rattle.values.specs.declared.ValueKind.{ValueKind}
use Rattle.values.specs.declared.ValueKind.TheVariants as k
use Rattle.values.specs.declared.Value.{Value}
use Rattle.values.specs.Types.{row_of, is_raw, has_width, value_of, typed_value}
use Rattle.values.specs.AsRead.{binary_field, typed_in, typed_of}
use Rattle.values.specs.Steps.{typed_step}

-- KINDS

pub listed-one : (x : ValueKind) → (x ≡ k.Raw → ⊥) → is_raw x ≡ false
listed-one k.Bool o = refl
listed-one k.Int2 o = refl
listed-one k.Int4 o = refl
listed-one k.Int8 o = refl
listed-one k.Float4 o = refl
listed-one k.Float8 o = refl
listed-one k.TimestampTz o = refl
listed-one k.Raw o = absurd (o refl)

pub is_raw_lem : (x : ValueKind) → is_raw x ≡ true → x ≡ k.Raw
is_raw_lem k.Bool e = let z : ◌≡◌ {A = ℕ} 0 1 = cc in absurd (omega arith)
is_raw_lem k.Int2 e = let z : ◌≡◌ {A = ℕ} 0 1 = cc in absurd (omega arith)
is_raw_lem k.Int4 e = let z : ◌≡◌ {A = ℕ} 0 1 = cc in absurd (omega arith)
is_raw_lem k.Int8 e = let z : ◌≡◌ {A = ℕ} 0 1 = cc in absurd (omega arith)
is_raw_lem k.Float4 e = let z : ◌≡◌ {A = ℕ} 0 1 = cc in absurd (omega arith)
is_raw_lem k.Float8 e = let z : ◌≡◌ {A = ℕ} 0 1 = cc in absurd (omega arith)
is_raw_lem k.TimestampTz e = let z : ◌≡◌ {A = ℕ} 0 1 = cc in absurd (omega arith)
is_raw_lem k.Raw e = refl

-- a number within the line of a kind that is known
pub within : (x y : ValueKind) (n : ℕ) → x ≡ y → n ≤ (row_of x).most → n ≤ (row_of y).most
within x y n e h = rw e at h

-- as many bytes as a value of the kind has are inside a value that has its width
inside_width : (x : ValueKind) (n : ℕ) → has_width x n ≡ true → (row_of x).width ≤ n
inside_width x n h = go (is_raw x) refl h
  where
    go : (b : Bool) → is_raw x ≡ b → b || eqb n (row_of x).width ≡ true → (row_of x).width ≤ n
    go true e h = rw (is_raw_lem x e) (omega arith)
    go false e h = omega (arith, eqb-true n (row_of x).width h)

-- A VALUE

module _ (xs : List ℕ) (x : ValueKind) (s n : ℕ) where
  pub value_wide : has_width x n ≡ false → refuse 17 s ≡ typed_value xs x s n
  unfolding typed_value
  value_wide h = rw h

  module _ (lies : s + n ≤ length xs) (wide : has_width x n ≡ true) {f : Taken ℕ} (is : f ≡ number_field (row_of x).width 0 (row_of x).most 17 xs (Ok s)) where
    abbrev number : ℕ
    number = be (row_of x).width xs s

    found : f ≡ cond (leb number (row_of x).most) (record { value = number; next = Ok (s + (row_of x).width) }) (no_number (refuse 17 s))
    unfolding number_field
    found =
        let z : 0 ≤ number = omega arith in
        is ∙ rw (word_there (row_of x).width xs s (omega (arith, inside_width x n wide)), le-leb 0 number z)

    pub value_big : {r : Refusal} → f.next ≡ Err r → Err r ≡ typed_value xs x s n
    unfolding typed_value
    value_big {r} q = go (leb number (row_of x).most) refl
      where
        go : (b : Bool) → leb number (row_of x).most ≡ b → Err r ≡ typed_value xs x s n
        go true e = let g : f.next ≡ Ok (s + (row_of x).width) = rw (found, e) in no q g
        go false e =
            let g : f.next ≡ refuse 17 s = rw (found, e) in
            rw (wide, e) (ap Err (same_refusal (sym q ∙ g)))

    pub value-good : (e : ℕ) {y : Value} → f.next ≡ Ok e → y ≡ value_of x s n f.value → Ok y ≡ typed_value xs x s n
    unfolding typed_value
    value-good e {y} q v = go (leb number (row_of x).most) refl
      where
        go : (b : Bool) → leb number (row_of x).most ≡ b → Ok y ≡ typed_value xs x s n
        go true t =
            let g : f.value ≡ number = rw (found, t) in
            rw (wide, t, v, g)
        go false t = let g : f.next ≡ refuse 17 s = rw (found, t) in no g q

-- a raw value's number, of no bytes
pub raw_number : (xs : List ℕ) (x : ValueKind) (s : ℕ) → x ≡ k.Raw → s ≤ length xs → record { value = 0; next = Ok s } ≡ number_field (row_of x).width 0 (row_of x).most 17 xs (Ok s)
unfolding number_field be
raw_number xs x s e h =
    let z : s + 0 ≡ s = omega arith in
    rw (e, word_there 0 xs s (omega arith), z)

-- A STEP

module _ (xs : List ℕ) (p : Position) (oid : ℕ) where
  pub step_over : p.left ≡ 0 → record { item = Ok None; next = p } ≡ typed_step xs p oid
  unfolding typed_step
  step_over e = rw (eq-eqb p.left 0 e)

  module _ (more : p.left ≡ 0 → ⊥) where
    abbrev field : Taken Span
    field = binary_field xs (Ok p.offset)

    pub step_refused : {r : Refusal} → typed_of xs oid field ≡ Err r → record { item = Err r; next = p } ≡ typed_step xs p oid
    unfolding typed_step
    step_refused {r} q = go field.next refl q
      where
        go : (c : Cursor) → field.next ≡ c → typed_in xs oid (given_at field.value c) ≡ Err r → record { item = Err r; next = p } ≡ typed_step xs p oid
        go (Ok e) n q = rw (ne_eqb p.left 0 more, n, q)
        go (Err k) n q = let s : k ≡ r = cc in rw (ne_eqb p.left 0 more, n, s)

    pub step_typed : {x : Value} → typed_of xs oid field ≡ Ok x → record { item = Ok (Some x); next = record { offset = position_of field.next; left = p.left - 1 } } ≡ typed_step xs p oid
    unfolding typed_step
    step_typed {x} q = go field.next refl q
      where
        go : (c : Cursor) → field.next ≡ c → typed_in xs oid (given_at field.value c) ≡ Ok x → record { item = Ok (Some x); next = record { offset = position_of c; left = p.left - 1 } } ≡ typed_step xs p oid
        go (Ok e) n q = rw (ne_eqb p.left 0 more, n, q)
        go (Err k) n q = let z : ◌≡◌ {A = ℕ} 0 1 = cc in absurd (omega arith)
