-- A field that was read was there, a field that is there is read, and a field that is refused is refused at its first byte. Assumes nothing.
use Rattle.std.proofs.Common.{◌≡◌, ℕ, zero, suc, ◌+◌, ◌<◌, ◌≤◌, Bool, true, false, cond, eqb, leb, List, [], ◌∷◌, length, get_or, drop, sym, refl, ap, arith, lt-ltb, ne_eqb, eqb-true, le-leb, leb-true}
use borrow.Author.Tests.{eqb-false}
use Rattle.std.specs.Prelude.{Some, None, Ok, Err}
use Rattle.wire.specs.declared.Refusal.{Refusal}
use Rattle.wire.specs.declared.Span.{Span}
use Rattle.wire.specs.Cursors.{Cursor, refuse, Taken}
use Rattle.wire.specs.Numbers.{be, word_at}
use Rattle.wire.specs.Fields.{number_field, letter_field, text_field, bytes_field, until_zero, member, in_range, judged, no_number}
use Rattle.wire.proofs.Cases.{number_cases, letter_cases, text_cases, bytes_cases}
use Rattle.wire.proofs.Fields.{letter-good}

-- a cursor is not both at a place and refused
pub no : {c : Cursor} {n o e : ℕ} {A : Type 0} → c ≡ refuse n o → c ≡ Ok e → A
no p q = let z : ◌≡◌ {A = ℕ} 0 1 = cc in absurd (omega arith)

pub same_refusal : {r q : Refusal} → ◌≡◌ {A = Cursor} (Err r) (Err q) → r ≡ q
same_refusal e = cc

same-offset : {n m o a : ℕ} → ◌≡◌ {A = Cursor} (refuse n o) (refuse m a) → a ≡ o
same-offset q = sym (ap (λ (r : Refusal). r.offset) (same_refusal q))

module _ (w low high n : ℕ) (xs : List ℕ) (a : ℕ) where
  pub number_inv :
      (e : ℕ) → (number_field w low high n xs (Ok a)).next ≡ Ok e
      → (a + w ≤ length xs) × (in_range low high (be w xs a) ≡ true) × (e ≡ a + w)
  unfolding number_field word_at
  number_inv e q = go (leb (a + w) (length xs)) refl q
    where
      test : a + w ≤ length xs → (s : Bool) → in_range low high (be w xs a) ≡ s → (cond {A = Taken ℕ} s (record { value = be w xs a; next = Ok (a + w) }) (no_number (refuse n a))).next ≡ Ok e → (a + w ≤ length xs) × (in_range low high (be w xs a) ≡ true) × (e ≡ a + w)
      test h true g q = (h, g, (cc))
      test h false g q = no refl q

      go : (t : Bool) → leb (a + w) (length xs) ≡ t → (judged w low high n a (cond t (Some (be w xs a)) None)).next ≡ Ok e → (a + w ≤ length xs) × (in_range low high (be w xs a) ≡ true) × (e ≡ a + w)
      go true f q = test (leb-true (a + w) (length xs) f) (in_range low high (be w xs a)) refl q
      go false f q = no refl q

  pub number_read : a + w ≤ length xs → in_range low high (be w xs a) ≡ true → number_field w low high n xs (Ok a) ≡ record { value = be w xs a; next = Ok (a + w) }
  unfolding number_field word_at
  number_read h g = rw (le-leb (a + w) (length xs) h, g)

  pub number_off : (m o : ℕ) → (number_field w low high n xs (Ok a)).next ≡ refuse m o → o ≡ a
  number_off m o =
      number_cases w low high n xs a (λ (f : Taken ℕ). f.next ≡ refuse m o → o ≡ a) (λ k q. same-offset q) (λ h q. no q refl)

module _ (set xs : List ℕ) (a : ℕ) where
  pub letter_inv : (e : ℕ) → (letter_field set xs (Ok a)).next ≡ Ok e → (a < length xs) × (member set (get_or xs a 0) ≡ true) × (e ≡ a + 1)
  letter_inv e =
      letter_cases set xs a (λ (f : Taken ℕ). f.next ≡ Ok e → (a < length xs) × (member set (get_or xs a 0) ≡ true) × (e ≡ a + 1))
      (λ k q. no refl q) (λ h m q. (h, m, (cc)))

  pub letter_read : a < length xs → member set (get_or xs a 0) ≡ true → letter_field set xs (Ok a) ≡ record { value = get_or xs a 0; next = Ok (a + 1) }
  letter_read h g = sym (letter-good set xs a h g)

  pub letter_off : (m o : ℕ) → (letter_field set xs (Ok a)).next ≡ refuse m o → o ≡ a
  letter_off m o =
      letter_cases set xs a (λ (f : Taken ℕ). f.next ≡ refuse m o → o ≡ a) (λ k q. same-offset q) (λ h i q. no q refl)

module _ (xs : List ℕ) (a : ℕ) where
  pub text_inv : (e : ℕ) → (text_field xs (Ok a)).next ≡ Ok e → (a + until_zero (drop a xs) < length xs) × (e ≡ a + until_zero (drop a xs) + 1)
  text_inv e =
      text_cases xs a (λ (f : Taken Span). f.next ≡ Ok e → (a + until_zero (drop a xs) < length xs) × (e ≡ a + until_zero (drop a xs) + 1))
      (λ q. no refl q) (λ h q. (h, (cc)))

  pub text_read : (u : ℕ) → until_zero (drop a xs) ≡ u → a + u < length xs → text_field xs (Ok a) ≡ record { value = record { start = a; length = u }; next = Ok (a + u + 1) }
  unfolding text_field
  text_read u g h = rw (g, lt-ltb (a + u) (length xs) h)

  pub text_off : (m o : ℕ) → (text_field xs (Ok a)).next ≡ refuse m o → o ≡ a
  text_off m o = text_cases xs a (λ (f : Taken Span). f.next ≡ refuse m o → o ≡ a) (λ q. same-offset q) (λ h q. no q refl)

  pub bytes_inv : (n e : ℕ) → (bytes_field n xs (Ok a)).next ≡ Ok e → (a + n ≤ length xs) × (e ≡ a + n)
  bytes_inv n e =
      bytes_cases xs a (λ (f : Taken Span). f.next ≡ Ok e → (a + n ≤ length xs) × (e ≡ a + n)) (λ q. no refl q) n (λ h q. (h, (cc)))

  pub bytes_read : (n : ℕ) → a + n ≤ length xs → bytes_field n xs (Ok a) ≡ record { value = record { start = a; length = n }; next = Ok (a + n) }
  unfolding bytes_field
  bytes_read n h = rw (le-leb (a + n) (length xs) h)

  pub bytes_off : (n m o : ℕ) → (bytes_field n xs (Ok a)).next ≡ refuse m o → o ≡ a
  bytes_off n m o = bytes_cases xs a (λ (f : Taken Span). f.next ≡ refuse m o → o ≡ a) (λ q. same-offset q) n (λ h q. no q refl)

-- the first zero byte
pub until_before : (ys : List ℕ) (i : ℕ) → i < until_zero ys → get_or ys i 0 ≡ 0 → ⊥
unfolding until_zero
until_before [] i h e = omega arith
until_before (y ∷ ys) i h e = go (until_before ys) i (eqb y 0) refl h e
  where
    go : ((j : ℕ) → j < until_zero ys → get_or ys j 0 ≡ 0 → ⊥) → (i : ℕ) (t : Bool) → eqb y 0 ≡ t → i < cond t 0 (suc (until_zero ys)) → get_or (y ∷ ys) i 0 ≡ 0 → ⊥
    go again i true f h e = omega arith
    go again zero false f h e = eqb-false y 0 f e
    go again (suc i) false f h e = again i (omega arith) e

pub until_zero_lem : (ys : List ℕ) → until_zero ys < length ys → get_or ys (until_zero ys) 0 ≡ 0
unfolding until_zero
until_zero_lem [] h = refl
until_zero_lem (y ∷ ys) h = go (until_zero_lem ys) (eqb y 0) refl h
  where
    go : (until_zero ys < length ys → get_or ys (until_zero ys) 0 ≡ 0) → (t : Bool) → eqb y 0 ≡ t → cond t 0 (suc (until_zero ys)) < suc (length ys) → get_or (y ∷ ys) (cond t 0 (suc (until_zero ys))) 0 ≡ 0
    go again true e h = eqb-true y 0 e
    go again false e h = again (omega arith)

pub until_is : (ys : List ℕ) (u : ℕ) → u < length ys → get_or ys u 0 ≡ 0 → ((i : ℕ) → i < u → get_or ys i 0 ≡ 0 → ⊥) → until_zero ys ≡ u
unfolding until_zero
until_is [] u h z b = absurd (omega arith)
until_is (y ∷ ys) zero h z b = rw z
until_is (y ∷ ys) (suc u) h z b =
    rw (ne_eqb y 0 (b 0 (omega arith))) (ap suc (until_is ys u (omega arith) z (λ i k e. b (suc i) (omega arith) e)))
