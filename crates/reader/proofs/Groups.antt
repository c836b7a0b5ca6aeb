-- Groups of fields, one after the other. Assumes nothing.
use Prim.Native.Nat.{ℕ, zero, suc, ◌-◌, ◌<◌, ◌≤◌}
use mathlib.Core.List.{List}
use mathlib.Core.Path.{◌≡◌, refl, ap, sym, ◌∙◌}
use native.Mathlib.Omega.{arith}
use Rattle.wire.specs.Cursors.{Cursor, refuse}
use Rattle.message.specs.Layout.{Field, read_group, times, groups_end}

module _ (fs : List Field) (xs : List ℕ) where
  more : (n m : ℕ) (c : Cursor) → 0 < n → m ≡ n - 1 → groups_end fs xs n c ≡ groups_end fs xs m (read_group fs xs c).next
  unfolding groups_end
  more zero m c h e = absurd (omega arith)
  more (suc n) m c h e = let s : m ≡ n = omega arith in rw s

  -- a turn of a loop over the groups: one group is read, and one less is left
  pub turn : (n : ℕ) (c : Cursor) {d whole : Cursor} → 0 < n → d ≡ (read_group fs xs c).next → groups_end fs xs n c ≡ whole → groups_end fs xs (n - 1) d ≡ whole
  turn n c h e inv = ap (groups_end fs xs (n - 1)) e ∙ sym (more n (n - 1) c h refl) ∙ inv

  -- the end of the loop
  pub done : (n : ℕ) {c : Cursor} {whole : Cursor} → n ≤ 0 → groups_end fs xs n c ≡ whole → c ≡ whole
  unfolding groups_end
  done n h inv = let z : n ≡ 0 = omega arith in rw z at inv

  -- a refusal passes through the groups that are left
  stays : (k o : ℕ) → (read_group fs xs (refuse k o)).next ≡ refuse k o → (n : ℕ) → groups_end fs xs n (refuse k o) ≡ refuse k o
  unfolding groups_end
  stays k o e zero = refl
  stays k o e (suc n) = ap (times n (λ (d : Cursor). (read_group fs xs d).next)) e ∙ stays k o e n

  -- the end of the loop at a refusal
  pub refused :
      (n : ℕ) (c : Cursor) {d whole : Cursor} {k o : ℕ} → 0 < n → (read_group fs xs (refuse k o)).next ≡ refuse k o → d ≡ (read_group fs xs c).next → d ≡ refuse k o
      → groups_end fs xs n c ≡ whole → d ≡ whole
  refused n c {d} {whole} {k} {o} h s e r inv =
      let q : groups_end fs xs (n - 1) d ≡ whole = turn n c h e inv in
      r ∙ sym (stays k o s (n - 1)) ∙ rw r at q
