-- What is read from a refusal on is refused. Assumes nothing.
use Rattle.std.proofs.Common.{◌≡◌, ℕ, cond, List, arith}
use Rattle.std.specs.Prelude.{Ok, Err}
use Rattle.wire.specs.declared.Refusal.{Refusal}
use Rattle.wire.specs.Cursors.{Cursor, Taken}
use Rattle.wire.specs.Fields.{letter_field, value_field}
use Rattle.wire.proofs.Cases.{letter_cases}
use Rattle.message.specs.Layout.{Field, column_letters, column_letter, has_value, column_end, tuple_end, groups_end}
use Rattle.message.proofs.Local.{tuple_local, groups_local}

-- a column whose letter is refused
pub column_stops : (xs : List ℕ) (c : Cursor) {r : Refusal} → (column_letter xs c).next ≡ Err r → column_end xs c ≡ Err r
unfolding column_end letter_field
column_stops xs (Err q) e = e
column_stops xs (Ok a) {r} e =
    letter_cases column_letters xs a
    (λ (k : Taken ℕ). k.next ≡ Err r → cond {A = Cursor} (has_value k.value) (value_field xs k.next).next k.next ≡ Err r)
    (λ k q. q) (λ h m q. let z : ◌≡◌ {A = ℕ} 0 1 = cc in absurd (omega arith)) e

pub tuple_stays : (xs : List ℕ) (r : Refusal) → tuple_end xs (Err r) ≡ Err r
tuple_stays xs r = tuple_local.stays xs r.number r.offset

pub groups_stay : (fs : List Field) (xs : List ℕ) (n : ℕ) (r : Refusal) → groups_end fs xs n (Err r) ≡ Err r
groups_stay fs xs n r = (groups_local fs n).stays xs r.number r.offset
