-- The turns of the loops over a buffer's pieces. Assumes nothing.
use Prim.Native.Nat.{ℕ, zero, suc, ◌+◌, ◌-◌, ◌<◌, ◌≤◌}
use mathlib.Core.List.{List, [], ◌∷◌, ◌++◌}
use mathlib.Core.Bool.{Bool, true, false}
use mathlib.Core.Path.{◌≡◌, refl, sym, ◌∙◌, ap, ap₂}
use native.Mathlib.Omega.{arith}
use borrow.Rule.Slice.PartMut.{mid_of, put_mid}
use lib.ListN.{length, take, drop, length-append, length-drop}
use lib.Seq.{take-nil, take-take, drop-drop, length-take-le, sets, sets-eq, length-sets}
use Rattle.copying.specs.Copies.{laid_in}
use Rattle.copying.proofs.Copies.{sets_append, drop_sets, laid_in_tail}
use Rattle.keeper.specs.declared.Header.{Header}
use Rattle.keeper.specs.Rules.{laid}
use Rattle.keeper.specs.Records.{header_of, passed, pieces_in, Hold, hold}
use Rattle.keeper.proofs.Pieces.{size_le, size_some, pieces_none, pieces_next}

-- LISTS

drop-take : (z n : ℕ) (l : List ℕ) → drop z (take n l) ≡ take (n - z) (drop z l)
drop-take zero n l = let e : n - 0 ≡ n = omega arith in rw e
drop-take (suc z) zero l = let e : 0 - suc z ≡ 0 = omega arith in rw e
drop-take (suc z) (suc n) [] = sym (take-nil (suc n - suc z))
drop-take (suc z) (suc n) (x ∷ l) = let e : suc n - suc z ≡ n - z = omega arith in rw e (drop-take z n l)

drop_more : (z k : ℕ) (l m : List ℕ) → drop k l ≡ drop k m → drop (k + z) l ≡ drop (k + z) m
drop_more z k l m e = sym (drop-drop z k l) ∙ ap (drop z) e ∙ drop-drop z k m

-- what is left of a buffer from `at` to `end`
abbrev pub rest : List ℕ → ℕ → ℕ → List ℕ
rest l at end = take (end - at) (drop at l)

rest-next : (l : List ℕ) (at z end : ℕ) → drop z (rest l at end) ≡ rest l (at + z) end
rest-next l at z end = let e : end - at - z ≡ end - (at + z) = omega arith in drop-take z (end - at) (drop at l) ∙ rw (e, drop-drop)

rest-length : (l : List ℕ) (at end : ℕ) → end ≤ length l → length (rest l at end) ≡ end - at
rest-length l at end h = length-take-le (end - at) (drop at l) (simp length-drop (omega arith))

-- WHERE A LOOP IS

-- what passes from `at` on
abbrev pub picks : (Header → Bool) → List ℕ → ℕ → ℕ → List ℕ
picks q l end at = pieces_in q (rest l at end)

picks_start : (q : Header → Bool) (l : List ℕ) (end held : ℕ) → take end l ≡ take held l → picks q l end 0 ≡ pieces_in q (take held l)
picks_start q l end held e = let z : end - 0 ≡ end = omega arith in rw z (ap (pieces_in q) e)

picks_done : (q : Header → Bool) (l : List ℕ) (end at : ℕ) → end ≤ at → picks q l end at ≡ []
picks_done q l end at h = let z : end - at ≡ 0 = omega arith in rw z (pieces_none q [] refl)

-- n bytes passed before `at`, of all that do
pub record Counting (q : Header → Bool) (l : List ℕ) (end whole n at : ℕ) : Type 0 where
  pub fits : end ≤ length l
  pub inside : at ≤ end
  pub behind : n ≤ at
  pub sum : n + length (picks q l end at) ≡ whole

-- those that passed are laid from the start of an output that was out₀
pub record Copying (q : Header → Bool) (l : List ℕ) (end : ℕ) (whole out₀ out : List ℕ) (n at : ℕ) : Type 0 where
  pub count : Counting q l end (length whole) n at
  pub long : length out ≡ length out₀
  pub stores : sets out n (picks q l end at) ≡ sets out₀ 0 whole

-- those that passed are packed at the start of the buffer itself, and what is ahead is as it was
pub record Packing (q : Header → Bool) (l : List ℕ) (end : ℕ) (whole cur : List ℕ) (to from : ℕ) : Type 0 where
  pub copy : Copying q l end whole l cur to from
  pub ahead : drop from cur ≡ drop from l

-- THE START

module _ (q : Header → Bool) (l : List ℕ) (end held : ℕ) (fits : end ≤ length l) (e : take end l ≡ take held l) where
  pub count-start : Counting q l end (length (pieces_in q (take held l))) 0 0
  count-start = record { fits = fits; inside = omega arith; behind = omega arith; sum = omega (arith, ap length (picks_start q l end held e)) }

  pub copy_start : (out : List ℕ) → Copying q l end (pieces_in q (take held l)) out out 0 0
  copy_start out = record { count = count-start; long = refl; stores = ap (sets out 0) (picks_start q l end held e) }

  pub pack_start : Packing q l end (pieces_in q (take held l)) l 0 0
  pack_start = record { copy = copy_start l; ahead = refl }

-- THE END

module _ {q : Header → Bool} {l : List ℕ} {end at : ℕ} (h : end ≤ at) where
  pub count_done : {whole n : ℕ} → Counting q l end whole n at → n ≡ whole
  count_done c = omega (arith, ap length (picks_done q l end at h), c.sum)

  pub copy_done : {whole out₀ out : List ℕ} {n : ℕ} → Copying q l end whole out₀ out n at → length whole ≤ length out₀ → out ≡ laid whole out₀
  copy_done {whole} {out₀} {out} {n} c k =
      let z : 0 + length whole ≡ length whole = omega arith in
      sym (ap (sets out n) (picks_done q l end at h)) ∙ c.stores ∙ sets-eq whole out₀ 0 (omega arith) ∙ rw z

  pub pack_done : {whole cur : List ℕ} {to : ℕ} → Packing q l end whole cur to at → hold cur to ≡ hold (laid whole l) (length whole)
  pack_done p = let c = p.copy.count in let n = count_done c in ap₂ hold (copy_done p.copy (omega arith)) n

-- A TURN: the piece at `at` is r
pub record Turn (l : List ℕ) (end at : ℕ) (r : Header) : Type 0 where
  pub fits : end ≤ length l
  pub inside : at < end
  pub is : r ≡ header_of (rest l at end)

pub turn : {q : Header → Bool} {l : List ℕ} {end whole n at : ℕ} {r : Header} → Counting q l end whole n at → at < end → r ≡ header_of (rest l at end) → Turn l end at r
turn c h e = record { fits = c.fits; inside = h; is = e }

-- of a loop that reads the buffer which it changes
pub turn_ahead :
    {q : Header → Bool} {l : List ℕ} {end : ℕ} {whole cur : List ℕ} {to from : ℕ} {r : Header} → Packing q l end whole cur to from → from < end
    → r ≡ header_of (rest cur from end) → Turn l end from r
turn_ahead {end = end} {from = from} p h e = turn p.copy.count h (e ∙ ap (λ (x : List ℕ). header_of (take (end - from) x)) p.ahead)

module _ {l : List ℕ} {end at : ℕ} {r : Header} (t : Turn l end at r) where
  -- it goes on, and not too far
  pub goes : (0 < r.size) × (at + r.size ≤ end)
  goes =
      let k = rest-length l at end t.fits in
      let e = ap (λ (x : Header). x.size) t.is in
      let i = t.inside in
      (omega (arith, size_some (rest l at end) (omega arith)), omega (arith, size_le (rest l at end)))

  part_length : length (take r.size (drop at l)) ≡ r.size
  part_length = let g = goes in let f = t.fits in length-take-le r.size (drop at l) (simp length-drop (omega arith))

  next : (q : Header → Bool) → picks q l end at ≡ passed q r (rest l at end) ++ picks q l end (at + r.size)
  next q = pieces_next q (rest l at end) ∙ rw (← t.is, rest-next l at r.size end)

  picks_pass : (q : Header → Bool) → q r ≡ true → picks q l end at ≡ take r.size (drop at l) ++ picks q l end (at + r.size)
  picks_pass q e = let g = goes in next q ∙ rw (e, take-take r.size (end - at) (drop at l) (omega arith))

  picks_skip : (q : Header → Bool) → q r ≡ false → picks q l end at ≡ picks q l end (at + r.size)
  picks_skip q e = next q ∙ rw e

  -- it passes
  module _ {q : Header → Bool} {v : Bool} (w : v ≡ q r) (e : v ≡ true) where
    pub count_pass : {whole n : ℕ} → Counting q l end whole n at → Counting q l end whole (n + r.size) (at + r.size)
    count_pass c =
        let k = ap length (picks_pass q (sym w ∙ e)) in
        let a = length-append (take r.size (drop at l)) (picks q l end (at + r.size)) in
        let s = part_length in
        let g = goes in
        record { fits = t.fits; inside = g.1; behind = omega arith; sum = omega arith }

    copy_pass : {whole out₀ out m : List ℕ} {n : ℕ} → Copying q l end whole out₀ out n at → m ≡ sets out n (take r.size (drop at l)) → Copying q l end whole out₀ m (n + r.size) (at + r.size)
    copy_pass {out = out} {n = n} c f = record {
      count = count_pass c.count;
      long = ap length f ∙ length-sets out n (take r.size (drop at l)) ∙ c.long;
      stores =
          ap (λ (x : List ℕ). sets x (n + r.size) (picks q l end (at + r.size))) f
          ∙ sets_append out n (take r.size (drop at l)) (picks q l end (at + r.size)) (n + r.size) (let s = part_length in omega arith)
          ∙ ap (sets out n) (sym (picks_pass q (sym w ∙ e))) ∙ c.stores;
    }

    -- it was laid in the output's tail, from a buffer in which other pieces are packed
    pub copy-laid :
        {whole out₀ out : List ℕ} {n : ℕ} {other : Header → Bool} {others cur : List ℕ} {to : ℕ} {m : List ℕ} → Copying q l end whole out₀ out n at
        → length whole ≤ length out₀ → Packing other l end others cur to at → m ≡ laid_in (mid_of n (length out - n) out) (take (at + r.size - at) (drop at cur)) → Copying q l end whole out₀ (put_mid n (length out - n) out m) (n + r.size) (at + r.size)
    copy-laid {out = out} {n = n} {cur = cur} c h p f =
        let z : at + r.size - at ≡ r.size = omega arith in
        let k = count_pass c.count in
        let s = part_length in
        let long = c.long in
        copy_pass c (laid_in_tail out n (take r.size (drop at l)) {part = take (at + r.size - at) (drop at cur)} (omega arith) (rw (z, p.ahead)) f)

    pub pack_pass :
        {whole cur m : List ℕ} {to n : ℕ} → Packing q l end whole cur to at → hold m n ≡ hold (sets cur to (take r.size (drop at cur))) (to + r.size)
        → Packing q l end whole m n (at + r.size)
    pack_pass {cur = cur} {to = to} p h =
        let b = p.copy.count.behind in
        let s = ap (λ (x : List ℕ). length (take r.size x)) p.ahead ∙ part_length in
        rw (ap (λ (x : Hold). x.buffer) h, ap (λ (x : Hold). x.held) h)
        (record {
          copy = copy_pass p.copy (ap (λ (x : List ℕ). sets cur to (take r.size x)) p.ahead);
          ahead = drop_sets (at + r.size) cur to (take r.size (drop at cur)) (omega arith) ∙ drop_more r.size at cur l p.ahead;
        })

  -- it does not
  module _ {q : Header → Bool} {v : Bool} (w : v ≡ q r) (e : v ≡ false) where
    pub count_skip : {whole n : ℕ} → Counting q l end whole n at → Counting q l end whole n (at + r.size)
    count_skip c = let k = ap length (picks_skip q (sym w ∙ e)) in let g = goes in record { fits = t.fits; inside = g.1; behind = omega arith; sum = omega arith }

    pub copy_skip : {whole out₀ out : List ℕ} {n : ℕ} → Copying q l end whole out₀ out n at → Copying q l end whole out₀ out n (at + r.size)
    copy_skip {out = out} {n = n} c = record { count = count_skip c.count; long = c.long; stores = ap (sets out n) (sym (picks_skip q (sym w ∙ e))) ∙ c.stores }

    pub pack_skip : {whole cur : List ℕ} {to : ℕ} → Packing q l end whole cur to at → Packing q l end whole cur to (at + r.size)
    pack_skip {cur = cur} p = record { copy = copy_skip p.copy; ahead = drop_more r.size at cur l p.ahead }
