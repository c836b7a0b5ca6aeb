-- One eliminator for each field: what holds of a refusal and of a good field holds of what is read. Assumes nothing.
use Rattle.std.proofs.Common.{◌≡◌, ℕ, ◌+◌, ◌<◌, ◌≤◌, Bool, true, false, cond, ltb, leb, List, length, get_or, drop, refl, ltb-true, leb-true}
use Rattle.std.specs.Prelude.{Some, None, Ok, Err}
use Rattle.wire.specs.declared.Span.{Span}
use Rattle.wire.specs.Cursors.{Cursor, refuse, Taken}
use Rattle.wire.specs.Numbers.{be, word_at}
use Rattle.wire.specs.Fields.{number_field, letter_field, text_field, bytes_field, until_zero, member, judged, in_range, no_number, no_span}

module _ (w low high n : ℕ) (xs : List ℕ) (a : ℕ) (P : Taken ℕ → Type 0) (bad : (k : ℕ) → P (no_number (refuse k a))) (good : a + w ≤ length xs → P (record { value = be w xs a; next = Ok (a + w) })) where
  pub number_cases : P (number_field w low high n xs (Ok a))
  unfolding number_field word_at
  number_cases = go (leb (a + w) (length xs)) refl
    where
      test : a + w ≤ length xs → (t : Bool) → P (cond t (record { value = be w xs a; next = Ok (a + w) }) (no_number (refuse n a)))
      test h true = good h
      test h false = bad n

      go : (t : Bool) → leb (a + w) (length xs) ≡ t → P (judged w low high n a (cond t (Some (be w xs a)) None))
      go true e = test (leb-true (a + w) (length xs) e) (in_range low high (be w xs a))
      go false e = bad 2

module _ (set xs : List ℕ) (a : ℕ) (P : Taken ℕ → Type 0) (bad : (k : ℕ) → P (no_number (refuse k a))) (good : a < length xs → member set (get_or xs a 0) ≡ true → P (record { value = get_or xs a 0; next = Ok (a + 1) })) where
  pub letter_cases : P (letter_field set xs (Ok a))
  unfolding letter_field
  letter_cases = go (ltb a (length xs)) refl (member set (get_or xs a 0)) refl
    where
      go : (t : Bool) → ltb a (length xs) ≡ t → (m : Bool) → member set (get_or xs a 0) ≡ m → P (cond t (cond m (record { value = get_or xs a 0; next = Ok (a + 1) }) (no_number (refuse 4 a))) (no_number (refuse 2 a)))
      go true e true i = good (ltb-true a (length xs) e) i
      go true e false i = bad 4
      go false e m i = bad 2

-- a letter that was read is of its set
pub letter_in : (set xs : List ℕ) (c : Cursor) → ((letter_field set xs c).value ≡ 0 → ⊥) → member set (letter_field set xs c).value ≡ true
unfolding letter_field
letter_in set xs (Err r) z = absurd (z refl)
letter_in set xs (Ok a) z =
    letter_cases set xs a (λ (f : Taken ℕ). (f.value ≡ 0 → ⊥) → member set f.value ≡ true) (λ k z. absurd (z refl)) (λ h m z. m) z

module _ (xs : List ℕ) (a : ℕ) (P : Taken Span → Type 0) (bad : P (no_span (refuse 2 a))) where
  pub text_cases :
      (a + until_zero (drop a xs) < length xs → P (record { value = record { start = a; length = until_zero (drop a xs) }; next = Ok (a + until_zero (drop a xs) + 1) }))
      → P (text_field xs (Ok a))
  unfolding text_field
  text_cases good = go (ltb (a + until_zero (drop a xs)) (length xs)) refl
    where
      go : (t : Bool) → ltb (a + until_zero (drop a xs)) (length xs) ≡ t → P (cond t (record { value = record { start = a; length = until_zero (drop a xs) }; next = Ok (a + until_zero (drop a xs) + 1) }) (no_span (refuse 2 a)))
      go true e = good (ltb-true (a + until_zero (drop a xs)) (length xs) e)
      go false e = bad

  pub bytes_cases :
      (n : ℕ) → (a + n ≤ length xs → P (record { value = record { start = a; length = n }; next = Ok (a + n) }))
      → P (bytes_field n xs (Ok a))
  unfolding bytes_field
  bytes_cases n good = go (leb (a + n) (length xs)) refl
    where
      go : (t : Bool) → leb (a + n) (length xs) ≡ t → P (cond t (record { value = record { start = a; length = n }; next = Ok (a + n) }) (no_span (refuse 2 a)))
      go true e = good (leb-true (a + n) (length xs) e)
      go false e = bad
