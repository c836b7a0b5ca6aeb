-- The laws of fields, sets of letters and texts. Assumes nothing.
use Rattle.std.proofs.Common.{◌≡◌, ℕ, ◌+◌, ◌-◌, ◌<◌, ◌≤◌, Bool, true, false, cond, ◌&&◌, leb, ◌||◌, List, [], ◌∷◌, length, get_or, drop, refl, ap, ◌==◌, add-one, arith, drop_of_length-le, drop-cons, le-ltb, lt-ltb, eq-eqb, ne_eqb, leb-true}
use Rattle.std.specs.Prelude.{Option, Some, None, Ok, Err}
use Rattle.wire.specs.declared.Span.{Span}
use Rattle.wire.specs.Cursors.{Cursor, refuse, Taken}
use Rattle.wire.specs.Numbers.{word_at}
use Rattle.wire.specs.Fields.{number_field, judged, member, until_zero, text_field, no_span, letter_field}

-- a number that was read is at most its field's highest
pub value_le : (w low high n : ℕ) (xs : List ℕ) (c : Cursor) → (number_field w low high n xs c).value ≤ high
unfolding number_field
value_le w low high n xs (Err r) = omega arith
value_le w low high n xs (Ok at) = word (word_at w xs at)
  where
    test : (a b : Bool) (v : ℕ) → leb v high ≡ b → (cond {A = Taken ℕ} (a && b) (record { value = v; next = Ok (at + w) }) (record { value = 0; next = refuse n at })).value ≤ high
    test true true v e = leb-true v high e
    test true false v e = omega arith
    test false b v e = omega arith

    word : (r : Option ℕ) → (judged w low high n at r).value ≤ high
    word None = omega arith
    word (Some v) = test (leb low v) (leb v high) v refl

-- the bytes of a set, and of a text, from i on
module _ (xs : List ℕ) (i : ℕ) where
  pub member_here : (v : ℕ) → i < length xs → get_or xs i 0 ≡ v → member (drop i xs) v ≡ true
  unfolding member
  member_here v h e = rw (drop-cons xs i 0, eq-eqb (get_or xs i 0) v e)

  pub member_next : (v : ℕ) → i < length xs → (get_or xs i 0 ≡ v → ⊥) → member (drop i xs) v ≡ member (drop (i + 1) xs) v
  unfolding member
  member_next v h e = rw (add-one, drop-cons xs i 0, ne_eqb (get_or xs i 0) v e)

  pub member_end : (v : ℕ) → length xs ≤ i → member (drop i xs) v ≡ false
  unfolding member
  member_end v h = rw (drop_of_length-le xs h)

  pub until_here : i < length xs → get_or xs i 0 ≡ 0 → until_zero (drop i xs) ≡ 0
  unfolding until_zero
  until_here h e = rw (drop-cons xs i 0, eq-eqb (get_or xs i 0) 0 e)

  pub until_next : i < length xs → (get_or xs i 0 ≡ 0 → ⊥) → until_zero (drop i xs) ≡ until_zero (drop (i + 1) xs) + 1
  unfolding until_zero
  until_next h e = rw (add-one, drop-cons xs i 0, ne_eqb (get_or xs i 0) 0 e, add-one)

  pub until_end : length xs ≤ i → until_zero (drop i xs) ≡ 0
  unfolding until_zero
  until_end h = rw (drop_of_length-le xs h)

-- where the zero byte of a text stands
module _ (xs : List ℕ) (at : ℕ) where
  pub text_there :
      (end : ℕ) → end ≡ at + until_zero (drop at xs) → end < length xs
      → ◌≡◌ {A = Taken Span} (record { value = record { start = at; length = end - at }; next = Ok (end + 1) }) (text_field xs (Ok at))
  unfolding text_field
  text_there end e h =
      let l : end - at ≡ until_zero (drop at xs) = omega arith in
      rw (l, e, lt-ltb (at + until_zero (drop at xs)) (length xs) (rw e at h))

  pub text_short :
      (end : ℕ) → end ≡ at + until_zero (drop at xs) → length xs ≤ end
      → ◌≡◌ {A = Taken Span} (no_span (refuse 2 at)) (text_field xs (Ok at))
  unfolding text_field
  text_short end e h = rw (le-ltb (at + until_zero (drop at xs)) (length xs) (rw e at h))

-- the cases of a letter
module _ (set xs : List ℕ) (at : ℕ) where
  pub letter-good :
      at < length xs → member set (get_or xs at 0) ≡ true
      → ◌≡◌ {A = Taken ℕ} (record { value = get_or xs at 0; next = Ok (at + 1) }) (letter_field set xs (Ok at))
  unfolding letter_field
  letter-good h m = rw (lt-ltb at (length xs) h, m)
