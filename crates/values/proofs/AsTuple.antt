-- Where a step past a binary column finds a value, a step through the tuple finds that `b` column, and ends at the same place. Assumes nothing.
use Prim.Native.Nat.{ℕ, ◌-◌}
use mathlib.Core.List.{List, [], ◌∷◌}
use mathlib.Core.Bool.{Bool, true, false, cond}
use mathlib.Core.Path.{◌≡◌, refl, sym, ap, ◌∙◌}
use native.Mathlib.Omega.{arith}
use lib.Dec.{eqb}
use lib.ListN.{get_or}
use Rattle.wire.specs.declared.Span.{Span}
use Rattle.wire.specs.Cursors.{Cursor, refuse, Taken}
use Rattle.std.specs.Prelude.{Some, Ok, Err}
use Rattle.wire.specs.Fields.{number_field, letter_field, bytes_field, value_field, member}
use Rattle.wire.proofs.There.{no, letter_inv, letter_read}
use Rattle.message.specs.Layout.{column_letters, column_value, column_end}
use Rattle.message.proofs.Again.{only-letter}
use Rattle.columns.specs.declared.Position.{Position}
use Rattle.columns.specs.Steps.{over, gives, step_at, stood, tuple_step}
use Rattle.values.specs.Steps.{binary}

-- a `b` is a letter of a column
as_letter : (xs : List ℕ) (a e : ℕ) → (letter_field (0x62 ∷ []) xs (Ok a)).next ≡ Ok e → letter_field column_letters xs (Ok a) ≡ record { value = 0x62; next = Ok e }
unfolding member
as_letter xs a e q =
    let i = letter_inv (0x62 ∷ []) xs a e q in
    let x : get_or xs a 0 ≡ 0x62 = sym (only-letter 0x62 (get_or xs a 0) i.1) in
    letter_read column_letters xs a i.0 (rw x) ∙ rw (x, i.2)

-- after a refusal no value is read
refused-value : (xs : List ℕ) (n o e : ℕ) {A : Type 0} → (value_field xs (refuse n o)).next ≡ Ok e → A
unfolding value_field number_field bytes_field
refused-value xs n o e q = no refl q

pub as_tuple : (xs : List ℕ) (p : Position) (s n e : ℕ) → step_at binary xs p ≡ gives (s ∷ n ∷ []) e → tuple_step xs p ≡ record { item = Ok (Some (record { letter = 0x62; value = record { start = s; length = n } })); next = record { offset = e; left = p.left - 1 } }
unfolding tuple_step column_value column_end
as_tuple xs p s n e q = outer (eqb p.left 0) refl q
  where
    from : Cursor
    from = (letter_field (0x62 ∷ []) xs (Ok p.offset)).next

    Goal : Type 0
    Goal = tuple_step xs p ≡ record { item = Ok (Some (record { letter = 0x62; value = record { start = s; length = n } })); next = record { offset = e; left = p.left - 1 } }

    found : eqb p.left 0 ≡ false → (k : Cursor) → from ≡ k → (f : Taken Span) → value_field xs k ≡ f → (end : Cursor) → f.next ≡ end → stood (f.value.start ∷ f.value.length ∷ []) end ≡ gives (s ∷ n ∷ []) e → Goal
    found t (Err r) a f b (Ok i) c q = refused-value xs r.number r.offset i (ap (λ (y : Taken Span). y.next) b ∙ c)
    found t k a f b (Err r) c q = let z : ◌≡◌ {A = ℕ} 0 1 = cc in absurd (omega arith)
    found t (Ok j) a f b (Ok i) c q =
        let l = as_letter xs p.offset j a in
        let x : f.value.start ≡ s = cc in
        let y : f.value.length ≡ n = cc in
        let w : i ≡ e = cc in
        rw (t, l, b, c, x, y, w)

    outer : (t : Bool) → eqb p.left 0 ≡ t → cond t over (stood ((value_field xs from).value.start ∷ (value_field xs from).value.length ∷ []) (value_field xs from).next) ≡ gives (s ∷ n ∷ []) e → Goal
    outer true t q = let z : ◌≡◌ {A = ℕ} 0 1 = cc in absurd (omega arith)
    outer false t q = found t from refl (value_field xs from) refl (value_field xs from).next refl q
