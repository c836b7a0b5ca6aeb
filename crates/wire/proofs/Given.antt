-- What a field gives tells where reading stands after it. Assumes nothing.
use Rattle.std.proofs.Common.{◌≡◌, ℕ, List, refl, ap, arith}
use Rattle.std.specs.Result.{result_unwrap_or}
use Rattle.std.specs.Prelude.{Ok, Err}
use Rattle.wire.specs.declared.Refusal.{Refusal}
use Rattle.wire.specs.Cursors.{Cursor, Taken}
use Rattle.wire.specs.Fields.{number_field}
use Rattle.wire.specs.Readers.{given, given_at}
use Rattle.wire.proofs.Cases.{number_cases}

module _ {A : Type 0} (f : Taken A) where
  pub stopped : {r : Refusal} → given f ≡ Err r → f.next ≡ Err r
  stopped = go f.next
    where
      go : (c : Cursor) {r : Refusal} → given_at f.value c ≡ Err r → c ≡ Err r
      go (Ok a) e = let z : ◌≡◌ {A = ℕ} 0 1 = cc in absurd (omega arith)
      go (Err q) {r} e = let s : q ≡ r = cc in ap Err s

module _ {A : Type 0} (f : Taken A) where
  -- a value that is given is the field's, behind which reading stands
  pub went_on : {v : A} → given f ≡ Ok v → (e : ℕ) × (f.next ≡ Ok e) × (v ≡ f.value)
  went_on = go f.next
    where
      go : (c : Cursor) {v : A} → given_at f.value c ≡ Ok v → (e : ℕ) × (c ≡ Ok e) × (v ≡ f.value)
      go (Ok a) {v} e = let s : v ≡ f.value = cc in (a, refl, s)
      go (Err q) e = let z : ◌≡◌ {A = ℕ} 0 1 = cc in absurd (omega arith)

-- what is given is turned into something else
module _ {A B : Type 0} (f : A → B) where
  pub turned : (v : A) (c : Cursor) {w : A} → given_at v c ≡ Ok w → given_at (f v) c ≡ Ok (f w)
  turned v (Ok a) {w} e = let s : v ≡ w = cc in ap (λ (x : A). Ok (f x)) s
  turned v (Err q) e = let z : ◌≡◌ {A = ℕ} 0 1 = cc in absurd (omega arith)

  pub turned_not : (v : A) (c : Cursor) {r : Refusal} → given_at v c ≡ Err r → given_at (f v) c ≡ Err r
  turned_not v (Ok a) e = let z : ◌≡◌ {A = ℕ} 0 1 = cc in absurd (omega arith)
  turned_not v (Err q) {r} e = let s : q ≡ r = cc in ap Err s

-- a number that is refused is 0
pub number_or : (w low high n : ℕ) (xs : List ℕ) (c : Cursor) → result_unwrap_or (given (number_field w low high n xs c)) 0 ≡ (number_field w low high n xs c).value
unfolding number_field
number_or w low high n xs (Err r) = refl
number_or w low high n xs (Ok a) =
    number_cases w low high n xs a (λ (f : Taken ℕ). result_unwrap_or (given f) 0 ≡ f.value) (λ k. refl) (λ h. refl)
