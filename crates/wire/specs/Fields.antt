-- To be believed (demand 1). One field at a cursor: first whether it is there, then what it holds (document 01, "The refusal table").
-- A cursor that has refused stays as it is, so that a layout is read from left to right with no branches.
use Rattle.std.specs.Prelude.{ℕ, suc, ◌+◌, Bool, false, cond, ◌&&◌, ◌||◌, List, [], ◌∷◌, length, drop, Option, Some, None, Ok, Err, ◌==◌, nat_le, nat_lt, slice_index}
use Rattle.wire.specs.declared.Span.{Span}
use Rattle.wire.specs.Cursors.{Cursor, Taken, refuse}
use Rattle.wire.specs.Numbers.{word_at}

-- A NUMBER

-- no number: where reading stopped
abbrev pub no_number : Cursor → Taken ℕ
no_number c = record { value = 0; next = c }

abbrev pub in_range : ℕ → ℕ → ℕ → Bool
in_range low high v = nat_le low v && nat_le v high

-- what stands at `at` where w bytes were looked for, as a number from `low` to `high`, else refusal n
abbrev pub judged : ℕ → ℕ → ℕ → ℕ → ℕ → Option ℕ → Taken ℕ
judged w low high n at None = no_number (refuse 2 at)
judged w low high n at (Some v) = cond (in_range low high v) (record { value = v; next = Ok (at + w) }) (no_number (refuse n at))

-- a number of w bytes from `low` to `high`, else refusal n
unfoldable pub number_field : ℕ → ℕ → ℕ → ℕ → List ℕ → Cursor → Taken ℕ
number_field w low high n xs (Ok at) = judged w low high n at (word_at w xs at)
number_field w low high n xs (Err r) = no_number (Err r)

-- a field's number in the type that holds it
abbrev pub in_type : {A : Type 0} → (ℕ → A) → Taken ℕ → Taken A
in_type of f = record { value = of f.value; next = f.next }

-- A LETTER

unfoldable pub member : List ℕ → ℕ → Bool
member [] v = false
member (x ∷ xs) v = x == v || member xs v

-- one of the letters of a set, else refusal 4
unfoldable pub letter_field : List ℕ → List ℕ → Cursor → Taken ℕ
letter_field set xs (Ok at) =
    cond (nat_lt at (length xs))
    (cond (member set (slice_index xs at)) (record { value = slice_index xs at; next = Ok (at + 1) }) (no_number (refuse 4 at)))
    (no_number (refuse 2 at))
letter_field set xs (Err r) = no_number (Err r)

-- A TEXT AND BYTES

-- how many bytes stand before the first zero byte, or the end
unfoldable pub until_zero : List ℕ → ℕ
until_zero [] = 0
until_zero (x ∷ xs) = cond (x == 0) 0 (suc (until_zero xs))

abbrev pub no_span : Cursor → Taken Span
no_span c = record { value = record { start = 0; length = 0 }; next = c }

-- a text: its bytes end before the first zero byte, which belongs to the field
unfoldable pub text_field : List ℕ → Cursor → Taken Span
text_field xs (Ok at) =
    cond (nat_lt (at + until_zero (drop at xs)) (length xs))
    (record { value = record { start = at; length = until_zero (drop at xs) }; next = Ok (at + until_zero (drop at xs) + 1) })
    (no_span (refuse 2 at))
text_field xs (Err r) = no_span (Err r)

-- n bytes
unfoldable pub bytes_field : ℕ → List ℕ → Cursor → Taken Span
bytes_field n xs (Ok at) =
    cond (nat_le (at + n) (length xs))
    (record { value = record { start = at; length = n }; next = Ok (at + n) })
    (no_span (refuse 2 at))
bytes_field n xs (Err r) = no_span (Err r)

-- a signed length of 32 bits that is not negative, and that many bytes: two fields
unfoldable pub value_field : List ℕ → Cursor → Taken Span
value_field xs c = let l = number_field 4 0 0x7FFFFFFF 4 xs c in bytes_field l.value xs l.next

-- where a cursor stands, and 0 where it has refused
abbrev pub position_of : Cursor → ℕ
position_of (Ok at) = at
position_of (Err r) = 0
