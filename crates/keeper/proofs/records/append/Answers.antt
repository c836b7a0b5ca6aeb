use Prim.Native.Nat.{ℕ, ◌+◌, ◌≤◌, ◌-◌}
use native.Mathlib.Omega.{arith}
use mathlib.Core.Path.{◌≡◌, refl, ◌∙◌, ap, ap₂}
use mathlib.Core.List.{List, ◌++◌, append_assoc}
use lib.ListN.{length, length-append}
use lib.Seq.{sets, length-sets}
use borrow.Rule.Slice.PartMut.{mid_of, put_mid}
use Rattle.message.specs.Encode.{digits}
use Rattle.message.proofs.Judged.{length_digits}
use Rattle.copying.specs.Copies.{laid_in}
use Rattle.copying.proofs.Copies.{sets_append, laid_in_tail}
use Rattle.keeper.specs.Rules.{kept, record_of}
use Rattle.keeper.specs.Records.{hold}
use Rattle.keeper.proofs.records.append.Goals as goal

-- `keeper::records::append` meets its contract. Assumes nothing.
-- a list is laid behind one that was laid from `i` on
laid_next :
    (l : List ℕ) (i : ℕ) (xs ys : List ℕ) (at : ℕ) {b m : List ℕ} → b ≡ sets l i xs → at ≡ i + length xs → at + length ys ≤ length l
    → m ≡ laid_in (mid_of at (length b - at) b) ys → put_mid at (length b - at) b m ≡ sets l i (xs ++ ys)
laid_next l i xs ys at {b} e z h f =
    let n : length b ≡ length l = ap length e ∙ length-sets l i xs in
    laid_in_tail b at ys (omega arith) refl f ∙ rw e (sets_append l i xs ys at z)

record_is : (top own : ℕ) (xs : List ℕ) → digits 2 0xC34D ++ digits 4 top ++ digits 4 own ++ digits 4 (length xs) ++ xs ≡ record_of (kept top own xs)
unfolding record_of digits
record_is top own xs = simp append_assoc

pub returns : goal.returns
returns c =
    let a = c.args in
    let l = a.buffer.now in
    let i = a.held in
    let m = digits 2 0xC34D in
    let t = digits 4 a.top in
    let o = digits 4 a.own in
    let n = digits 4 (length a.bytes.now) in
    let h = c.requires in
    let e₁ = laid_in_tail l i m (simp length_digits (omega arith)) refl (rw c.from.ensures at c.lay_number.ensures) in
    let e₂ = laid_next l i m t (i + 2) e₁ (simp length_digits (omega arith)) (simp length_digits (omega arith)) (rw c.from-2.ensures at c.lay_number-2.ensures) in
    let e₃ = laid_next l i (m ++ t) o (i + 6) e₂ (simp (length-append, length_digits) (omega arith)) (simp length_digits (omega arith)) c.lay_number-3.ensures in
    let e₄ = laid_next l i (m ++ t ++ o) n (i + 10) e₃ (simp (length-append, length_digits) (omega arith)) (simp length_digits (omega arith)) c.lay_number-4.ensures in
    let e₅ = laid_next l i (m ++ t ++ o ++ n) a.bytes.now (i + 14) e₄ (simp (length-append, length_digits) (omega arith)) (omega arith) c.lay_part.ensures in
    ap₂ hold (e₅ ∙ ap (sets l i) (record_is a.top a.own a.bytes.now)) (omega arith)
