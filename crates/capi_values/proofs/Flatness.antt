-- The flat form of a value, and what three numbers are. Assumes nothing.
use Prim.Native.Nat.{ℕ, ◌<◌, ◌≤◌}
use mathlib.Core.List.{List}
use mathlib.Core.Bool.{false}
use Rattle.std.specs.Prelude.{Option, None, Some, Result}
use mathlib.Core.Path.{◌≡◌, sym, ap, ◌∙◌}
use native.Mathlib.Omega.{arith}
use borrow.Author.Tests.{eq-eqb, ne_eqb, le-leb, lt-leb}
use lib.ListN.{get_or}
use Rattle.wire.specs.declared.Refusal.{Refusal}
use Rattle.wire.specs.Cursors.{refuse}
use Rattle.writer.specs.Answer.{Settles}
use Rattle.values.specs.declared.ValueKind.{ValueKind}
use Rattle.values.specs.declared.ValueKind.TheVariants as k
use Rattle.values.specs.declared.TypeRow.{TypeRow}
use Rattle.values.specs.declared.Value.{Value}
use Rattle.values.specs.declared.Bits.{Bits}
use Rattle.values.specs.declared.Bits.TheVariants.{Number, Part}
use Rattle.values.specs.Types.{row_of, kind_of_type, is_raw, kind_of, bits_of}
use Rattle.values.specs.Writes.{written}
use Rattle.columns.specs.declared.Step.{Step}
use Rattle.values.specs.Steps.{typed_step}
use Rattle.capi_values.specs.Stepping.{position_in, position_numbers, returned, numbers}
use Rattle.capi_values.specs.Flat.{flat_bits, flat, bits_of_kind, bits_in, write_found, write_flat}

-- a number that is too big for an OID is no listed type's
pub too_big : (oid : ℕ) → 0xFFFFFFFF < oid → k.Raw ≡ kind_of_type oid
too_big oid h =
    rw
    (ne_eqb oid 16 (λ e. omega arith), ne_eqb oid 21 (λ e. omega arith), ne_eqb oid 23 (λ e. omega arith), ne_eqb oid 20 (λ e. omega arith), ne_eqb oid 700 (λ e. omega arith), ne_eqb oid 701 (λ e. omega arith), ne_eqb oid 1184 (λ e. omega arith))

pub flattened : (x : Value) {b : Bits} {oid : ℕ} → b ≡ bits_of x → oid ≡ (row_of (kind_of x)).oid → flat_bits oid b ≡ flat x
flattened x e o = rw (e, o)

-- a step in numbers
pub shown :
    (xs ps : List ℕ) (oid : ℕ) {s : Step Value} {r : ℕ} {ns : List ℕ} {k : Result (Option Value) Refusal} → s ≡ typed_step xs (position_in ps) oid → s.item ≡ k → r ≡ returned k → ns ≡ numbers k
    → let t = typed_step xs (position_in ps) oid in
    (r ≡ returned t.item) × (ns ≡ numbers t.item) × (position_numbers s.next ≡ position_numbers t.next)
shown xs ps oid e c p q =
    let t : (typed_step xs (position_in ps) oid).item ≡ _ = ap (λ (y : Step Value). y.item) (sym e) ∙ c in
    (p ∙ ap returned (sym t), q ∙ ap numbers (sym t), ap (λ (y : Step Value). position_numbers y.next) e)

module _ (ns src out : List ℕ) where
  none_found : {r : Result ℕ Refusal} → bits_in ns ≡ None → r ≡ refuse 4 0 → Settles (write_flat ns src) out r out
  none_found e p =
      let w : write_flat ns src ≡ write_found None src = ap (λ (b : Option Bits). write_found b src) e in
      record { answer = p ∙ rw w; output = rw w }

  some_found : {b : Bits} {r : Result ℕ Refusal} {out' : List ℕ} → bits_in ns ≡ Some b → Settles (written b src) out r out' → Settles (write_flat ns src) out r out'
  some_found e s = rw e s

  module _ {x : ValueKind} (kind : x ≡ kind_of_type (get_or ns 0 0)) where
    is : bits_in ns ≡ bits_of_kind x (get_or ns 0 0) (get_or ns 1 0) (get_or ns 2 0)
    is = ap (λ (y : ValueKind). bits_of_kind y (get_or ns 0 0) (get_or ns 1 0) (get_or ns 2 0)) (sym kind)

    pub raw_lacking : {r : Result ℕ Refusal} → x ≡ k.Raw → (get_or ns 0 0 ≡ 0 → ⊥) → r ≡ refuse 4 0 → Settles (write_flat ns src) out r out
    raw_lacking e h = none_found (is ∙ rw (e, ne_eqb (get_or ns 0 0) 0 h))

    pub raw_there : {r : Result ℕ Refusal} {out' : List ℕ} → x ≡ k.Raw → get_or ns 0 0 ≡ 0 → Settles (written (Part (get_or ns 1 0) (get_or ns 2 0)) src) out r out' → Settles (write_flat ns src) out r out'
    raw_there e h = some_found {b = Part (get_or ns 1 0) (get_or ns 2 0)} (is ∙ rw (e, eq-eqb (get_or ns 0 0) 0 h))

    module _ (listed : is_raw x ≡ false) {row : TypeRow} (line : row ≡ row_of x) where
      pub number_big : {r : Result ℕ Refusal} → row.most < get_or ns 1 0 → r ≡ refuse 4 0 → Settles (write_flat ns src) out r out
      number_big h =
          let m : (row_of x).most < get_or ns 1 0 = rw line at h in
          none_found (is ∙ rw (listed, lt-leb (get_or ns 1 0) (row_of x).most m))

      module _ (fits : get_or ns 1 0 ≤ row.most) where
        most : get_or ns 1 0 ≤ (row_of x).most
        most = rw line at fits

        pub number-second : {r : Result ℕ Refusal} → (get_or ns 2 0 ≡ 0 → ⊥) → r ≡ refuse 4 0 → Settles (write_flat ns src) out r out
        number-second h = none_found (is ∙ rw (listed, le-leb (get_or ns 1 0) (row_of x).most most, ne_eqb (get_or ns 2 0) 0 h))

        pub number_there : {r : Result ℕ Refusal} {out' : List ℕ} → get_or ns 2 0 ≡ 0 → Settles (written (Number row.width (get_or ns 1 0)) src) out r out' → Settles (write_flat ns src) out r out'
        number_there h s =
            let w : row.width ≡ (row_of x).width = ap (λ (y : TypeRow). y.width) line in
            some_found {b = Number row.width (get_or ns 1 0)} (is ∙ rw (listed, le-leb (get_or ns 1 0) (row_of x).most most, eq-eqb (get_or ns 2 0) 0 h, w)) s
