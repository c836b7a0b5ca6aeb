use Prim.Native.Nat.{ℕ, ◌+◌, ◌≤◌}
use native.Mathlib.Omega.{arith}
use mathlib.Core.Path.{◌≡◌, sym, ◌∙◌, ap}
use mathlib.Core.List.{List}
use lib.ListN.{length, take, drop, length-drop, take-append-drop}
use lib.Seq.{length-take-le, take-add, sets, sets-eq}
use Rattle.copying.proofs.Copies.{moved_fits}
use Rattle.keeper.specs.Records.{hold}
use Rattle.keeper.proofs.records.pack.Goals as goal

-- `keeper::records::pack` meets its contract. Assumes nothing.
sets_same : (l : List ℕ) (at n : ℕ) → at + n ≤ length l → sets l at (take n (drop at l)) ≡ l
sets_same l at n h =
    let s : length (take n (drop at l)) ≡ n = length-take-le n (drop at l) (simp length-drop (omega arith)) in
    sets-eq (take n (drop at l)) l at (omega arith) ∙ rw (s, ← take-add at n l) (take-append-drop (at + n) l)

pub returns-then-from-to : goal.returns-then-from-to
returns-then-from-to c =
    let a = c.args in
    let e : a.from ≡ a.to = omega arith in
    ap (λ (l : List ℕ). hold l (a.to + a.size)) (sym (rw e (sets_same a.buffer.now a.to a.size (omega arith))))

pub returns : goal.returns
returns c =
    let a = c.args in
    let e = moved_fits a.buffer.now a.to a.from a.size c.requires.0 c.requires.1 in
    ap (λ (l : List ℕ). hold l (a.to + a.size)) (c.move_down.ensures ∙ e)
