-- BOTH ROUND TRIPS of a binary value, for every position, type and place in a list. Assumes nothing.
use Prim.Native.Nat.{ℕ, suc, ◌+◌, ◌-◌, ◌≤◌}
use mathlib.Core.List.{List, [], ◌∷◌}
use mathlib.Core.Bool.{Bool, true, false, cond, ◌||◌}
use mathlib.Core.Path.{◌≡◌, refl, sym, ap, subst, ◌∙◌}
use native.Mathlib.Omega.{arith}
use borrow.Author.Tests.{le-leb, leb-true, eqb-true}
use lib.Dec.{eqb, leb}
use lib.ListN.{length}
use Rattle.wire.specs.Numbers.{be}
use Rattle.wire.proofs.Tests.{and_parts}
use Rattle.message.specs.Encode.{digits, cut}
use Rattle.message.specs.Write.{bytes}
use Rattle.message.proofs.Again.{digits-be}
use Rattle.message.proofs.From.{from_cut}
use Rattle.writer.proofs.RoundTrips.{Byte, numbers, numbers_small}
use Rattle.columns.specs.declared.Position.{Position}
use Rattle.columns.specs.Steps.{StepAnswer, over, gives, refused, step_at}
use Rattle.values.specs.declared.ValueKind.{ValueKind}
use Rattle.values.specs.declared.ValueKind.TheVariants as k
use Rattle.values.specs.declared.Value.{Value}
use Rattle.values.specs.declared.Value.TheVariants as v
use Rattle.values.specs.declared.Bits.{Bits}
use Rattle.values.specs.declared.Bits.TheVariants.{Number}
use Rattle.std.specs.Prelude.{Some, Ok}
use Rattle.values.specs.Types.{row_of, is_raw, kind_of_type, has_width, value_of, kind_of, bits_of, allowed, typed_value}
use Rattle.wire.specs.Cursors.{refuse}
use Rattle.values.specs.Steps.{binary, one, typed_item, typed_step}
use Rattle.values.specs.Writes.{written, write_value}
use Rattle.values.specs.Formed.{Formed, placed, at_column, value_start, past_column}
use Rattle.values.proofs.Spelled.{spelled, number_back, kind_back, formed}
use Rattle.values.proofs.Inside.{found}
use Rattle.values.proofs.Typed.{is_raw_lem}
use Rattle.values.proofs.InColumn.{content, stands, number_stands}

-- READ, THEN WRITTEN

-- the number that a value's bytes spell
abbrev number : List Byte → ValueKind → ℕ → ℕ
number xs x s = be (row_of x).width (numbers xs) s

-- a value that its type allows is written as it lies in the list
again :
    (xs : List Byte) (x : ValueKind) (s n : ℕ) → s + n ≤ length (numbers xs) → has_width x n ≡ true → number xs x s ≤ (row_of x).most
    → write_value (value_of x s n (number xs x s)) (numbers xs) ≡ bytes (cut (numbers xs) s n)
again xs x s n lies wide most = go (is_raw x) refl wide
  where
    go : (b : Bool) → is_raw x ≡ b → b || eqb n (row_of x).width ≡ true → write_value (value_of x s n (number xs x s)) (numbers xs) ≡ bytes (cut (numbers xs) s n)
    go true e w = rw (is_raw_lem x e, le-leb (s + n) (length (numbers xs)) lies)
    go false e w =
        let m : n ≡ (row_of x).width = eqb-true n (row_of x).width w in
        let i : s + (row_of x).width ≤ length (numbers xs) = omega arith in
        rw (number_back x s n (number xs x s) e most, digits-be (numbers xs) (numbers_small xs) (row_of x).width s i, m)

-- what a step that gives x has passed: n bytes from s on, which are what x is written as; x is of the type's kind, and formed
pub record GivenBy (xs : List ℕ) (p : Position) (oid : ℕ) (x : Value) : Type 0 where
  pub s : ℕ
  pub n : ℕ
  pub e : ℕ
  pub there : step_at binary xs p ≡ gives (s ∷ n ∷ []) e
  pub again : write_value x xs ≡ bytes (cut xs s n)
  pub kind : kind_of x ≡ kind_of_type oid
  pub well : Formed x

-- a value that a step gives, from any bytes, is written as the very bytes of its column
pub write_after_read : (xs : List Byte) (p : Position) (oid : ℕ) (x : Value) → (typed_step (numbers xs) p oid).item ≡ Ok (Some x) → GivenBy (numbers xs) p oid x
unfolding typed_step typed_value
write_after_read xs p oid x q = go (step_at binary (numbers xs) p) refl q
  where
    y : ValueKind
    y = kind_of_type oid

    is :
        (s n e : ℕ) → step_at binary (numbers xs) p ≡ gives (s ∷ n ∷ []) e → s + n ≤ length (numbers xs) → (b : Bool) → allowed y n (number xs y s) ≡ b
        → one (cond b (Ok (value_of y s n (number xs y s))) (refuse 17 s)) ≡ Ok (Some x) → GivenBy (numbers xs) p oid x
    is s n e g l true t q =
        let same : value_of y s n (number xs y s) ≡ x = cc in
        let f = and_parts (has_width y n) (leb (number xs y s) (row_of y).most) t in
        let m = leb-true (number xs y s) (row_of y).most f.1 in
        record {
          s = s;
          n = n;
          e = e;
          there = g;
          again = ap (λ (x : Value). write_value x (numbers xs)) (sym same) ∙ again xs y s n l f.0 m;
          kind = ap kind_of (sym same) ∙ kind_back y s n (number xs y s);
          well = subst Formed same (formed y s n (number xs y s) m);
        }
    is s n e g l false t q = let z : ◌≡◌ {A = ℕ} 0 1 = cc in absurd (omega arith)

    go : (z : StepAnswer) → step_at binary (numbers xs) p ≡ z → typed_item (numbers xs) oid z ≡ Ok (Some x) → GivenBy (numbers xs) p oid x
    go over g q = let z : ◌≡◌ {A = ℕ} 0 1 = cc in absurd (omega arith)
    go (refused m o) g q = let z : ◌≡◌ {A = ℕ} 0 1 = cc in absurd (omega arith)
    go (gives vs e) g q =
        let f = found (numbers xs) p vs e g in
        is f.start f.count e (g ∙ ap (λ (l : List ℕ). gives l e) f.is) f.lies (allowed y f.count (number xs y f.start)) refl (rw f.is at q)

-- EVERY PATTERN of every listed type: a `b` column of its bytes is read as a value of that kind, with these bits, which is written as these bytes
pub every_pattern :
    (y : ValueKind) → is_raw y ≡ false → (n : ℕ) → n ≤ (row_of y).most → (before behind src : List ℕ) (k : ℕ)
    → let bs = digits (row_of y).width n in
    (x : Value) × (typed_step (placed before bs behind) (at_column before k) (row_of y).oid ≡ record { item = Ok (Some x); next = past_column before bs k })
    × (kind_of x ≡ y) × (bits_of x ≡ Number (row_of y).width n) × (write_value x src ≡ bytes bs)
every_pattern y i n m before behind src k =
    let bs = digits (row_of y).width n in
    let s = value_start before in
    let b = number_back y s (length bs) n i m in
    (value_of y s (length bs) n, number_stands y n i m before behind k, kind_back y s (length bs) n, b, ap (λ (g : Bits). written g src) b)

-- WRITTEN, THEN READ

same_bytes : {ys bs : List ℕ} → bytes ys ≡ bytes bs → ys ≡ bs
same_bytes e = cc

-- a value that is written, and whose bytes stand in a `b` column, is read there as the same value
pub read_after_write :
    (x : Value) → Formed x → is_raw (kind_of x) ≡ false → (src bs before behind : List ℕ) (k : ℕ) → write_value x src ≡ bytes bs
    → typed_step (placed before bs behind) (at_column before k) (row_of (kind_of x)).oid ≡ record { item = Ok (Some x); next = past_column before bs k }
read_after_write x f i src bs before behind k e =
    let s = spelled x f i in
    let b : digits (row_of (kind_of x)).width s.n ≡ bs = same_bytes (sym (ap (λ (g : Bits). written g src) s.form) ∙ e) in
    let t = number_stands (kind_of x) s.n i s.most before behind k in
    let back = s.back (value_start before) (length (digits (row_of (kind_of x)).width s.n)) in
    rw (back, b) at t

-- and bytes of any other type as their place
pub raw_after_write :
    (oid : ℕ) → kind_of_type oid ≡ k.Raw → (bs before behind : List ℕ) (k : ℕ) → length bs ≤ 0x7FFFFFFF
    → (typed_step (placed before bs behind) (at_column before k) oid ≡ record { item = Ok (Some (v.Raw (value_start before) (length bs))); next = past_column before bs k })
    × (cut (placed before bs behind) (value_start before) (length bs) ≡ bs)
unfolding typed_step typed_value be
raw_after_write oid q bs before behind k l =
    let one_less : suc k - 1 ≡ k = omega arith in
    (rw (stands before bs behind l k, q, one_less), from_cut bs behind (content before bs behind l))
