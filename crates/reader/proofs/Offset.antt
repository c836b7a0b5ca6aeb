-- A plain offset, and the cursor that it stands for. Assumes nothing.
use Rattle.std.proofs.Common.{◌≡◌, ℕ, ◌+◌, ◌<◌, ◌≤◌, Bool, true, false, cond, List, [], ◌∷◌, length, ltb, refl, ap, sym, ◌∙◌, arith, lt-ltb, le-ltb}
use Rattle.std.specs.Prelude.{Some, None, Ok, Err}
use Rattle.wire.specs.declared.Refusal.{Refusal}
use Rattle.wire.specs.Cursors.{Cursor, Taken}
use Rattle.wire.specs.ValueEnd.{end_of}
use Rattle.wire.specs.Numbers.{be}
use Rattle.wire.specs.Readers.{given}
use Rattle.wire.proofs.Cases.{number_cases}
use Rattle.message.specs.Layout.{column, column_count, most_columns, groups_end, tuple_end}
use Rattle.message.specs.Messages.{largest}
use Rattle.message.proofs.Local.{groups_local}
use Rattle.reader.specs.Offset.{tuple_end_offset}

-- an offset is where the cursor stands
pub there : (c : Cursor) {e : ℕ} → Some e ≡ end_of c → c ≡ Ok e
there (Ok at) {e} q = let s : e ≡ at = cc in ap Ok (sym s)
there (Err r) q = let z : ◌≡◌ {A = ℕ} 0 1 = cc in absurd (omega arith)

module _ (xs : List ℕ) (start : ℕ) where
  -- the same for a tuple's
  pub tuple_there : {e : ℕ} → Some e ≡ tuple_end_offset xs start → tuple_end xs (Ok start) ≡ Ok e
  unfolding tuple_end_offset
  tuple_there {e} = go (ltb largest (length xs))
    where
      go : (t : Bool) → Some e ≡ cond t None (end_of (tuple_end xs (Ok start))) → tuple_end xs (Ok start) ≡ Ok e
      go true q = let z : ◌≡◌ {A = ℕ} 0 1 = cc in absurd (omega arith)
      go false q = there (tuple_end xs (Ok start)) q

  pub offset_long : largest < length xs → None ≡ tuple_end_offset xs start
  unfolding tuple_end_offset
  offset_long h = rw (lt-ltb largest (length xs) h)

  -- a count that was read
  pub counted : {v : ℕ} → given (column_count xs (Ok start)) ≡ Ok v → (v ≡ (column_count xs (Ok start)).value) × ((column_count xs (Ok start)).next ≡ Ok (start + 2)) × (start + 2 ≤ length xs)
  counted {v} =
      number_cases 2 0 most_columns 6 xs start (λ (f : Taken ℕ). given f ≡ Ok v → (v ≡ f.value) × (f.next ≡ Ok (start + 2)) × (start + 2 ≤ length xs))
      (λ k q. let z : ◌≡◌ {A = ℕ} 0 1 = cc in absurd (omega arith)) (λ h q. let s : v ≡ be 2 xs start = cc in (s, refl, h))

  -- a tuple's count and its columns
  module _ (h : length xs ≤ largest) where
    pub offset_from : {c : Cursor} → (column_count xs (Ok start)).next ≡ c → end_of (groups_end (column ∷ []) xs (column_count xs (Ok start)).value c) ≡ tuple_end_offset xs start
    unfolding tuple_end_offset tuple_end
    offset_from e =
        ap (λ (d : Cursor). end_of (groups_end (column ∷ []) xs (column_count xs (Ok start)).value d)) (sym e)
        ∙ rw (le-ltb largest (length xs) h)

    pub offset_none : {r : Refusal} → (column_count xs (Ok start)).next ≡ Err r → None ≡ tuple_end_offset xs start
    offset_none {r} e = sym (ap end_of ((groups_local (column ∷ []) (column_count xs (Ok start)).value).stays xs r.number r.offset)) ∙ offset_from e
