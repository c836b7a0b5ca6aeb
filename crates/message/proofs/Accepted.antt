-- What it says of a message that it was read: its kind, its numbers, and that reading got to the end. Assumes nothing.
use Prim.Native.Nat.{ℕ, ◌≤◌}
use mathlib.Core.List.{List}
use mathlib.Core.Bool.{Bool, true, false, cond, not}
use Rattle.std.specs.Prelude.{Option, None, Some, Ok, Err}
use mathlib.Core.Path.{◌≡◌, refl, ap}
use native.Mathlib.Omega.{arith}
use borrow.Author.Tests.{eqb-true, eqb-false, ltb-false}
use lib.Dec.{eqb, ltb}
use lib.ListN.{length, get_or}
use Rattle.wire.specs.Cursors.{Cursor, refuse}
use Rattle.message.specs.declared.Version.{Version}
use Rattle.message.specs.declared.Message.{Message}
use Rattle.message.specs.Layout.{read_fields}
use Rattle.message.specs.Kinds.{Kind, layout, kind_of}
use Rattle.message.specs.Versions.{version_allows, version_has}
use Rattle.message.specs.Messages.{message_of, finished, settled, read_kind, read_named, read_message, largest}

-- a function of cursors that leaves a refusal as it is gets somewhere only from somewhere
pub reached :
    (f : Cursor → Cursor) → ((n o : ℕ) → f (refuse n o) ≡ refuse n o) → (c : Cursor) {e : ℕ} → f c ≡ Ok e
    → (a : ℕ) × (c ≡ Ok a)
reached f stays (Ok a) q = (a, refl)
reached f stays (Err why) q = let r = stays why.number why.offset in let z : ◌≡◌ {A = ℕ} 0 1 = cc in absurd (omega arith)

-- a message that was settled is whole
whole : (xs : List ℕ) (k m : Message) (c : Cursor) → settled (finished xs c) k ≡ Ok m → (m ≡ k) × (c ≡ Ok (length xs))
whole xs k m (Err r) q = let z : ◌≡◌ {A = ℕ} 0 1 = cc in absurd (omega arith)
whole xs k m (Ok e) q = go (eqb e (length xs)) refl q
  where
    go : (t : Bool) → eqb e (length xs) ≡ t → settled (cond t (Ok e) (refuse 5 e)) k ≡ Ok m → (m ≡ k) × (◌≡◌ {A = Cursor} (Ok e) (Ok (length xs)))
    go true t q = ((cc), ap Ok (eqb-true e (length xs) t))
    go false t q = let z : ◌≡◌ {A = ℕ} 0 1 = cc in absurd (omega arith)

-- what is known of a message that was read
pub record Accepted (v : Version) (b : Bool) (xs : List ℕ) (m : Message) : Type 0 where
  pub kind : Kind
  pub letter : kind_of (get_or xs 0 0) ≡ Some kind
  pub allowed : version_allows v b ≡ true
  pub has : version_has v (Some kind) ≡ true
  pub short : length xs ≤ largest
  pub there : length xs ≡ 0 → ⊥
  pub message : m ≡ message_of kind (read_fields b (layout kind) xs (Ok 1)).parts
  pub ends : (read_fields b (layout kind) xs (Ok 1)).next ≡ Ok (length xs)

module _ (v : Version) (b : Bool) (xs : List ℕ) (m : Message) where
  no : {n o : ℕ} {A : Type 0} → refuse n o ≡ Ok m → A
  no q = let z : ◌≡◌ {A = ℕ} 0 1 = cc in absurd (omega arith)

  of_kind :
      version_allows v b ≡ true → length xs ≤ largest → (length xs ≡ 0 → ⊥) → (k : Option Kind) → kind_of (get_or xs 0 0) ≡ k → version_has v k ≡ true
      → read_named k b xs ≡ Ok m → Accepted v b xs m
  unfolding version_has read_kind
  of_kind a s t None e h q = let z : ◌≡◌ {A = ℕ} 0 1 = cc in absurd (omega arith)
  of_kind a s t (Some k) e h q =
      let w = whole xs (message_of k (read_fields b (layout k) xs (Ok 1)).parts) m (read_fields b (layout k) xs (Ok 1)).next q in
      record { kind = k; letter = e; allowed = a; has = h; short = s; there = t; message = w.0; ends = w.1 }

  pub accepted : read_message v b xs ≡ Ok m → Accepted v b xs m
  unfolding read_message
  accepted = allowing (version_allows v b) refl
    where
      having : (t : Bool) → version_has v (kind_of (get_or xs 0 0)) ≡ t → version_allows v b ≡ true → length xs ≤ largest → (length xs ≡ 0 → ⊥) → cond (not t) (refuse 3 0) (read_named (kind_of (get_or xs 0 0)) b xs) ≡ Ok m → Accepted v b xs m
      having true h a s z q = of_kind a s z (kind_of (get_or xs 0 0)) refl h q
      having false h a s z q = no q

      being : (t : Bool) → eqb (length xs) 0 ≡ t → version_allows v b ≡ true → length xs ≤ largest → cond t (refuse 2 0) (cond (not (version_has v (kind_of (get_or xs 0 0)))) (refuse 3 0) (read_named (kind_of (get_or xs 0 0)) b xs)) ≡ Ok m → Accepted v b xs m
      being true z a s q = no q
      being false z a s q = having (version_has v (kind_of (get_or xs 0 0))) refl a s (eqb-false (length xs) 0 z) q

      fitting : (t : Bool) → ltb largest (length xs) ≡ t → version_allows v b ≡ true → cond t (refuse 6 0) (cond (eqb (length xs) 0) (refuse 2 0) (cond (not (version_has v (kind_of (get_or xs 0 0)))) (refuse 3 0) (read_named (kind_of (get_or xs 0 0)) b xs))) ≡ Ok m → Accepted v b xs m
      fitting true s a q = no q
      fitting false s a q = being (eqb (length xs) 0) refl a (ltb-false largest (length xs) s) q

      allowing : (t : Bool) → version_allows v b ≡ t → cond (not t) (refuse 1 0) (cond (ltb largest (length xs)) (refuse 6 0) (cond (eqb (length xs) 0) (refuse 2 0) (cond (not (version_has v (kind_of (get_or xs 0 0)))) (refuse 3 0) (read_named (kind_of (get_or xs 0 0)) b xs)))) ≡ Ok m → Accepted v b xs m
      allowing true a q = fitting (ltb largest (length xs)) refl a q
      allowing false a q = no q
