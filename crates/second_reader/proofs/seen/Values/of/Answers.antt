use Rattle.std.proofs.Common.{◌≡◌, ℕ, suc, zero, List, [], ◌∷◌, ◌++◌, take, replicate, get_or, arith, refl, ap}
use Rattle.std.proofs.lemmas.List.{drop-drop, take_more}
use Rattle.second_reader.proofs.seen.Values.of.Goals as goal

-- what does not fit before does not fit afterwards
cut_before : (n : ℕ) (xs ys : List ℕ) → take n (take n xs ++ ys) ≡ take n (xs ++ ys)
cut_before zero xs ys = refl
cut_before (suc n) [] ys = refl
cut_before (suc n) (x ∷ xs) ys = ap (λ (l : List ℕ). x ∷ l) (cut_before n xs ys)

pub loop-number-preserved : goal.loop-number-preserved
loop-number-preserved c =
    let xs = c.args.numbers.now in
    let i = c.loop-number.number-index in
    let more = take_more xs i 0 (omega arith) in
    let fits = cut_before 16 (take i xs) (get_or xs i 0 ∷ []) in
    let behind = drop-drop {A = ℕ} 1 i (replicate 16 0) in
    (grind (arith, c.push.ensures.listed, c.loop-number.invariant.0, more, fits), cc (c.push.ensures.unused, c.loop-number.invariant.1, behind))
