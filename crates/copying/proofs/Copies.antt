-- What copies leave of a buffer. Assumes nothing.
use Prim.Native.Nat.{ℕ, zero, suc, ◌+◌, ◌-◌, ◌*◌, ◌/◌, ◌%◌, ◌<◌, ◌≤◌}
use mathlib.Core.List.{List, [], ◌∷◌, ◌++◌, append-nil}
use mathlib.Core.Path.{◌≡◌, refl, sym, ◌∙◌, ap}
use native.Mathlib.Omega.{arith}
use native.Mathlib.Numerals.{add-one}
use borrow.Author.Tests.{le-leb, lt-leb}
use borrow.Rule.Slice.PartMut.{mid_of, put_mid}
use lib.ListN.{length, get_or, take, drop, set, take-append-drop, drop_of_length-le, length-drop}
use lib.Seq.{take_all, take-suc, take-add, length-take-le, set-set, set_comm, take-set-le, drop-set-lt, drop-set-add, drop-cons, drop-drop, get_or-drop, sets}
use Rattle.message.specs.Encode.{digits, cut}
use Rattle.message.proofs.Judged.{length_digits}
use Rattle.copying.specs.Copies.{laid_in, moved_down}

-- storing two lists one after the other is storing them joined
pub sets_append : (l : List ℕ) (i : ℕ) (xs ys : List ℕ) (n : ℕ) → n ≡ i + length xs → sets (sets l i xs) n ys ≡ sets l i (xs ++ ys)
sets_append l i [] ys n e = let z : n ≡ i = omega arith in rw z
sets_append l i (x ∷ xs) ys n e = sets_append (set l i x) (suc i) xs ys n (omega arith)

-- a byte beside a list may be stored first
sets_first :
    (l : List ℕ) (i : ℕ) (xs : List ℕ) (x n : ℕ) → ((k : ℕ) → k < length xs → n ≡ i + k → ⊥) → sets (set l n x) i xs ≡ set (sets l i xs) n x
sets_first l i [] x n d = refl
sets_first l i (y ∷ xs) x n d =
    rw (set_comm l n i x y (λ q. d 0 (omega arith) (omega arith)))
    (sets_first (set l i y) (suc i) xs x n (λ k h q. d (suc k) (omega arith) (omega arith)))

-- a list over one that is no longer is the list alone
sets_over : (l : List ℕ) (i : ℕ) (xs ys : List ℕ) → length xs ≤ length ys → sets (sets l i xs) i ys ≡ sets l i ys
sets_over l i [] ys h = refl
sets_over l i (x ∷ xs) [] h = absurd (omega arith)
sets_over l i (x ∷ xs) (y ∷ ys) h =
    let f = sets_first (set l i x) (suc i) xs y i (λ k h q. omega arith) in
    rw (← f, set-set l i x y) (sets_over (set l i y) (suc i) xs ys (omega arith))

-- storing in a tail is storing behind what is before it
sets_tail_from : (l : List ℕ) (at i : ℕ) (xs : List ℕ) → take at l ++ sets (drop at l) i xs ≡ sets l (at + i) xs
sets_tail_from l at i [] = take-append-drop at l
sets_tail_from l at i (x ∷ xs) =
    let s : suc (at + i) ≡ at + suc i = omega arith in
    let t : take at (set l (at + i) x) ≡ take at l = take-set-le at l (at + i) x (omega arith) in
    let d : drop at (set l (at + i) x) ≡ set (drop at l) i x = drop-set-add at l i x in
    rw (s, ← d, ← t) (sets_tail_from (set l (at + i) x) at (suc i) xs)

-- THE LOOPS

-- digits are stored from the last
pub digit_turn :
    (l : List ℕ) (k v : ℕ) {m whole : List ℕ} → 0 < k → m ≡ set l (k - 1) (v % 256) → sets l 0 (digits k v) ≡ whole
    → sets m 0 (digits (k - 1) (v / 256)) ≡ whole
unfolding digits
digit_turn l zero v h e inv = absurd (omega arith)
digit_turn l (suc k) v h e inv =
    let s : suc k - 1 ≡ k = omega arith in
    let n : k ≡ 0 + length (digits k (v / 256)) = let q : length (digits k (v / 256)) ≡ k = length_digits k (v / 256) in omega arith in
    let d = digits k (v / 256) in
    rw (e, s) (sets_first l 0 d (v % 256) k (λ i h q. omega arith) ∙ sets_append l 0 d (v % 256 ∷ []) k n ∙ inv)

pub digit_end : (l : List ℕ) (k v : ℕ) {whole : List ℕ} → k ≤ 0 → sets l 0 (digits k v) ≡ whole → l ≡ whole
unfolding digits
digit_end l k v h inv = let z : k ≡ 0 = omega arith in rw z at inv

-- bytes from the first
pub byte_turn :
    (l xs : List ℕ) (i : ℕ) {m whole : List ℕ} → i < length xs → m ≡ set l i (get_or xs i 0) → sets l i (drop i xs) ≡ whole
    → sets m (i + 1) (drop (i + 1) xs) ≡ whole
byte_turn l xs i h e inv = rw (e, add-one) (rw (drop-cons xs i 0 h) at inv)

pub byte_end : (l xs : List ℕ) (i : ℕ) {whole : List ℕ} → length xs ≤ i → sets l i (drop i xs) ≡ whole → l ≡ whole
byte_end l xs i h inv = rw (drop_of_length-le xs h) at inv

-- a number with one byte more
pub digits_more :
    (xs : List ℕ) (at k v : ℕ) → at + k < length xs → get_or xs (at + k) 0 < 256 → digits k v ≡ cut xs at k
    → digits (k + 1) (v * 256 + get_or xs (at + k) 0) ≡ cut xs at (k + 1)
unfolding digits
digits_more xs at k v h b e =
    let x = get_or xs (at + k) 0 in
    let high : (v * 256 + x) / 256 ≡ v = omega arith in
    let low : (v * 256 + x) % 256 ≡ x = omega arith in
    let l : k < length (drop at xs) = simp length-drop (omega arith) in
    rw (add-one, high, low, e, take-suc (drop at xs) k 0 l, get_or-drop)

-- a part and the next
pub cut_turn :
    (l xs : List ℕ) (to from k n w : ℕ) {m o : List ℕ} → from + k ≤ length xs → w ≡ k + n → m ≡ sets l to (cut xs from k)
    → o ≡ sets m (to + k) (cut xs (from + k) n) → o ≡ sets l to (cut xs from w)
cut_turn l xs to from k n w h z e q =
    let s : length (cut xs from k) ≡ k = length-take-le k (drop from xs) (simp length-drop (omega arith)) in
    let both = sets_append l to (cut xs from k) (cut xs (from + k) n) (to + k) (omega arith) in
    q ∙ rw (z, e, both, take-add k n (drop from xs), drop-drop k from xs)

-- the last part may begin before the end of what is laid
pub cut_end :
    (l xs : List ℕ) (i j n : ℕ) {m o : List ℕ} → j ≤ i → i ≤ length xs → j + n ≡ length xs → m ≡ sets l 0 (take i xs)
    → o ≡ sets m j (cut xs j n) → o ≡ sets l 0 xs
cut_end l xs i j n h k z e q =
    let new = drop j xs in
    let old = take (i - j) new in
    let n-fits : length new ≤ n = simp length-drop (omega arith) in
    let before : length (take j xs) ≡ j = length-take-le j xs (omega arith) in
    let i-is : j + (i - j) ≡ i = omega arith in
    let split : take i xs ≡ take j xs ++ old = sym (ap (λ (k : ℕ). take k xs) i-is) ∙ take-add j (i - j) xs in
    let size : length old ≡ i - j = length-take-le (i - j) new (simp length-drop (omega arith)) in
    let shorter : length old ≤ length new = simp length-drop (omega arith) in
    let laid : sets l 0 (take i xs) ≡ sets (sets l 0 (take j xs)) j old =
    ap (sets l 0) split ∙ sym (sets_append l 0 (take j xs) old j (omega arith)) in
    q ∙ rw (take_all n new n-fits, e, laid, sets_over (sets l 0 (take j xs)) j old new shorter)
    (sets_append l 0 (take j xs) new j (omega arith) ∙ ap (sets l 0) (take-append-drop j xs))

-- THE TAIL

-- a tail has the room that is left
tail_room : (l : List ℕ) (at n : ℕ) → at + n ≤ length l → n ≤ length (take (length l - at) (drop at l))
tail_room l at n h =
    let k : length (drop at l) ≤ length l - at = simp length-drop (omega arith) in
    rw (take_all (length l - at) (drop at l) k) (simp length-drop (omega arith))

-- what a callee laid at the front of the tail from `at`
pub set_in_tail :
    (l : List ℕ) (at : ℕ) (xs : List ℕ) {part m : List ℕ} → at ≤ length l → part ≡ xs → m ≡ sets (mid_of at (length l - at) l) 0 part
    → put_mid at (length l - at) l m ≡ sets l at xs
set_in_tail l at xs h p e =
    let n : length (drop at l) ≤ length l - at = simp length-drop (omega arith) in
    let z : at + 0 ≡ at = omega arith in
    let t : take at l ++ sets (drop at l) 0 xs ≡ sets l at xs = sets_tail_from l at 0 xs ∙ rw z in
    rw (e, p, take_all (length l - at) (drop at l) n, drop_of_length-le (drop at l) n, append-nil, t)

-- WITHIN ONE BUFFER

-- what is stored before a place leaves what is from there on
pub drop_sets : (k : ℕ) (l : List ℕ) (i : ℕ) (xs : List ℕ) → i + length xs ≤ k → drop k (sets l i xs) ≡ drop k l
drop_sets k l i [] h = refl
drop_sets k l i (x ∷ xs) h = drop_sets k (set l i x) (suc i) xs (omega arith) ∙ drop-set-lt k l i x (omega arith)

-- k bytes moved, and the next n: these are as they were, for no store came so far
pub move_turn :
    (l : List ℕ) (to from k n w : ℕ) {m o : List ℕ} → to ≤ from → from + k ≤ length l → w ≡ k + n → m ≡ sets l to (cut l from k)
    → o ≡ sets m (to + k) (cut m (from + k) n) → o ≡ sets l to (cut l from w)
move_turn l to from k n w h b z e q =
    let s : length (cut l from k) ≡ k = length-take-le k (drop from l) (simp length-drop (omega arith)) in
    let ahead = drop_sets (from + k) l to (cut l from k) (omega arith) in
    cut_turn l l to from k n w b z e (q ∙ rw (e, ahead))

-- one byte is a part of one
pub cut-one : (l : List ℕ) (at : ℕ) → at < length l → cut l at 1 ≡ get_or l at 0 ∷ []
cut-one l at h = rw (drop-cons l at 0 h)

-- WHERE THERE IS ROOM, AND WHERE NOT

pub laid-fits : (l xs : List ℕ) → length xs ≤ length l → laid_in l xs ≡ sets l 0 xs
laid-fits l xs h = rw (le-leb (length xs) (length l) h)

pub laid_not : (l xs : List ℕ) → length l < length xs → laid_in l xs ≡ l
laid_not l xs h = rw (lt-leb (length xs) (length l) h)

-- what a callee laid where there is room, at the front of the tail from `at`
pub laid_in_tail :
    (l : List ℕ) (at : ℕ) (xs : List ℕ) {part m : List ℕ} → at + length xs ≤ length l → part ≡ xs
    → m ≡ laid_in (mid_of at (length l - at) l) part → put_mid at (length l - at) l m ≡ sets l at xs
laid_in_tail l at xs h p e =
    let tail = mid_of at (length l - at) l in
    set_in_tail l at xs (omega arith) refl (e ∙ ap (laid_in tail) p ∙ laid-fits tail xs (tail_room l at (length xs) h))

pub moved_fits : (l : List ℕ) (to from n : ℕ) → to ≤ from → from + n ≤ length l → moved_down l to from n ≡ sets l to (cut l from n)
moved_fits l to from n h k = rw (le-leb to from h, le-leb (from + n) (length l) k)

pub moved_not : (l : List ℕ) (to from n : ℕ) → to ≤ from → length l < from + n → moved_down l to from n ≡ l
moved_not l to from n h k = rw (le-leb to from h, lt-leb (from + n) (length l) k)
