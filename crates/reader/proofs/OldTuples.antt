-- The cases of an Update's old tuple. Assumes nothing.
use Rattle.std.proofs.Common.{◌≡◌, ℕ, Bool, true, false, cond, ◌||◌, eqb, List, get_or, refl, sym, ◌∙◌, arith, ne_eqb, eqb-true}
use Rattle.std.specs.Prelude.{Ok, Err}
use Rattle.wire.specs.declared.Refusal.{Refusal}
use Rattle.wire.specs.Cursors.{Taken}
use Rattle.wire.specs.Fields.{letter_field, position_of, member}
use Rattle.wire.specs.Readers.{given}
use Rattle.wire.proofs.Cases.{letter_cases}
use Rattle.message.specs.declared.OldTuple.{OldTuple}
use Rattle.message.specs.declared.OldTuple.TheVariants.{Nothing, Key, Full}
use Rattle.message.specs.Kinds.{key_or_old}
use Rattle.message.specs.Layout.{Optional, optional, tuple_end}
use Rattle.message.specs.Messages.{old_tuple}
use Rattle.reader.specs.Old.{old_field}

-- K or O, and not K
not_key : (v : ℕ) → (v ≡ 0x4B → ⊥) → member key_or_old v ≡ true → v ≡ 0x4F
unfolding member
not_key v n m = go (eqb 0x4F v) refl (rw (ne_eqb 0x4B v (λ e. n (sym e))) at m)
  where
    go : (t : Bool) → eqb 0x4F v ≡ t → (t || false) ≡ true → v ≡ 0x4F
    go true t m = sym (eqb-true 0x4F v t)
    go false t m = let z : ◌≡◌ {A = ℕ} 0 1 = cc in absurd (omega arith)

module _ (xs : List ℕ) (a : ℕ) where
  -- what the letter that was looked for makes of the old tuple
  abbrev old_by : Taken ℕ → Taken OldTuple
  old_by k =
      let o = cond {A = Optional} (eqb k.value 0) (record { letter = 0; start = 0; next = Ok a }) (record { letter = k.value; start = position_of k.next; next = tuple_end xs k.next }) in
      record { value = old_tuple o.letter o.start; next = o.next }

  abbrev with_tuple : (ℕ → OldTuple) → Taken ℕ → Taken OldTuple
  with_tuple f k = record { value = f (position_of k.next); next = tuple_end xs k.next }

  pub old_none : {r : Refusal} → given (letter_field key_or_old xs (Ok a)) ≡ Err r → old_field xs (Ok a) ≡ record { value = Nothing; next = Ok a }
  unfolding old_field optional
  old_none {r} =
      letter_cases key_or_old xs a (λ (k : Taken ℕ). given k ≡ Err r → old_by k ≡ record { value = Nothing; next = Ok a })
      (λ k q. refl) (λ h m q. let z : ◌≡◌ {A = ℕ} 0 1 = cc in absurd (omega arith))

  pub old_key : {v : ℕ} → given (letter_field key_or_old xs (Ok a)) ≡ Ok v → v ≡ 0x4B → old_field xs (Ok a) ≡ with_tuple Key (letter_field key_or_old xs (Ok a))
  unfolding old_field optional
  old_key {v} =
      letter_cases key_or_old xs a (λ (k : Taken ℕ). given k ≡ Ok v → v ≡ 0x4B → old_by k ≡ with_tuple Key k)
      (λ k q e. let z : ◌≡◌ {A = ℕ} 0 1 = cc in absurd (omega arith))
      (λ h m q e. let s : get_or xs a 0 ≡ 0x4B = cc in rw s refl)

  pub old_full : {v : ℕ} → given (letter_field key_or_old xs (Ok a)) ≡ Ok v → (v ≡ 0x4B → ⊥) → old_field xs (Ok a) ≡ with_tuple Full (letter_field key_or_old xs (Ok a))
  unfolding old_field optional
  old_full {v} =
      letter_cases key_or_old xs a (λ (k : Taken ℕ). given k ≡ Ok v → (v ≡ 0x4B → ⊥) → old_by k ≡ with_tuple Full k)
      (λ k q e. let z : ◌≡◌ {A = ℕ} 0 1 = cc in absurd (omega arith))
      (λ h m q e. let s : get_or xs a 0 ≡ v = cc in let f = not_key (get_or xs a 0) (λ k. e (sym s ∙ k)) m in rw f refl)
