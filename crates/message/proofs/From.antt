-- What is read where given bytes stand in a list from a place on. Assumes nothing.
use Prim.Native.Nat.{ℕ, zero, suc, ◌+◌, ◌-◌, ◌*◌, ◌/◌, ◌%◌, ◌^◌, ◌<◌, ◌≤◌}
use mathlib.Core.List.{List, [], ◌∷◌, ◌++◌, append_assoc}
use mathlib.Core.Bool.{Bool, true, false, cond, ◌||◌}
use mathlib.Core.Path.{◌≡◌, refl, sym, ◌∙◌, ap}
use native.Mathlib.Nat.{pow-suc}
use native.Mathlib.Omega.{arith}
use lib.ListN.{length, get_or, take, drop, length-drop, length-append, get_or-append}
use lib.Seq.{drop-drop, drop-append_seam, take-append_seam, get_or_at, get_or-drop, get_or-take}
use lib.Dec.{eqb}
use Rattle.std.specs.Prelude.{Ok}
use Rattle.wire.specs.Numbers.{be}
use Rattle.wire.specs.Fields.{number_field, text_field, letter_field, bytes_field, in_range, member, until_zero}
use Rattle.wire.proofs.There.{number_read, letter_read, text_read, bytes_read}
use Rattle.message.specs.Encode.{digits, cut}
use Rattle.message.proofs.Local.{Agree}
use Rattle.message.proofs.Judged.{length_digits, length_cut}

-- from a on xs has bs, and then post
pub record From (xs : List ℕ) (a : ℕ) (bs post : List ℕ) : Type 0 where
  pub at : a ≤ length xs
  pub is : drop a xs ≡ bs ++ post

module _ {xs : List ℕ} {a : ℕ} where
  pub from-length : (bs post : List ℕ) → From xs a bs post → a + length bs + length post ≡ length xs
  from-length bs post f =
      let l : length xs - a ≡ length bs + length post = sym (length-drop a xs) ∙ ap length f.is ∙ length-append bs post in
      omega (arith, f.at)

  pub from_first : (bs cs post : List ℕ) → From xs a (bs ++ cs) post → From xs a bs (cs ++ post)
  from_first bs cs post f = record { at = f.at; is = f.is ∙ append_assoc bs cs post }

  pub from_next : (bs cs post : List ℕ) → From xs a bs (cs ++ post) → From xs (a + length bs) cs post
  from_next bs cs post f =
      record {
        at = omega (arith, from-length bs (cs ++ post) f);
        is = sym (drop-drop (length bs) a xs) ∙ ap (drop (length bs)) f.is ∙ drop-append_seam bs (cs ++ post);
      }

  pub from_cut : (bs post : List ℕ) → From xs a bs post → cut xs a (length bs) ≡ bs
  from_cut bs post f = ap (take (length bs)) f.is ∙ take-append_seam bs post

  -- byte k of what stands there
  from-get : (bs post : List ℕ) → From xs a bs post → (k : ℕ) → k < length bs → get_or xs (a + k) 0 ≡ get_or bs k 0
  from-get bs post f k h = sym (get_or-drop a xs k 0) ∙ ap (λ (l : List ℕ). get_or l k 0) f.is ∙ get_or-append bs post 0 k h

  pub from_byte : (k : ℕ) (bs post : List ℕ) → From xs a (k ∷ bs) post → get_or xs a 0 ≡ k
  from_byte k bs post f = let z : a + 0 ≡ a = omega arith in ap (λ (i : ℕ). get_or xs i 0) (sym z) ∙ from-get (k ∷ bs) post f 0 (omega arith)

  -- a part of a source
  pub from_agree : (src post : List ℕ) (s n : ℕ) → n ≤ length src - s → From xs a (cut src s n) post → Agree src s xs a n
  from_agree src post s n h f =
      let l : length (cut src s n) ≡ n = length_cut src s n h in
      record {
        here = h;
        there = omega (arith, from-length (cut src s n) post f);
        same = λ i j. from-get (cut src s n) post f i (omega arith) ∙ get_or-take n (drop s src) i 0 j ∙ get_or-drop s src i 0;
      }

-- THE FIELDS

pub be-from : (xs : List ℕ) (a w v : ℕ) (post : List ℕ) → From xs a (digits w v) post → v < 256 ^ w → be w xs a ≡ v
unfolding be digits
be-from xs a zero v post f h = omega arith
be-from xs a (suc k) v post f h =
    let q : v < 256 ^ k * 256 = rw pow-suc at h in
    let l : v / 256 < 256 ^ k = omega arith in
    let d = digits k (v / 256) in
    let n : length d ≡ k = length_digits k (v / 256) in
    let m : k < length (d ++ (v % 256 ∷ [])) = omega (arith, length-append d (v % 256 ∷ [])) in
    rw (be-from xs a k (v / 256) ((v % 256 ∷ []) ++ post) (from_first d (v % 256 ∷ []) post f) l, from-get (d ++ (v % 256 ∷ [])) post f k m, get_or_at d (v % 256) [] 0 k n)
    (omega arith)

until_text : (t post : List ℕ) → member t 0 ≡ false → until_zero (t ++ (0 ∷ post)) ≡ length t
unfolding until_zero member
until_text [] post h = refl
until_text (x ∷ t) post h = go (until_text t post) (eqb x 0) h
  where
    go : (member t 0 ≡ false → until_zero (t ++ (0 ∷ post)) ≡ length t) → (b : Bool) → b || member t 0 ≡ false → cond b 0 (suc (until_zero (t ++ (0 ∷ post)))) ≡ suc (length t)
    go again true h = let z : ◌≡◌ {A = ℕ} 0 1 = cc in absurd (omega arith)
    go again false h = ap suc (again h)

module _ {xs : List ℕ} {a : ℕ} (post : List ℕ) where
  pub number-from :
      (w low high n v : ℕ) → From xs a (digits w v) post → v < 256 ^ w → in_range low high v ≡ true
      → number_field w low high n xs (Ok a) ≡ record { value = v; next = Ok (a + w) }
  number-from w low high n v f h i =
      let e = be-from xs a w v post f h in
      let l : a + w ≤ length xs = omega (arith, from-length (digits w v) post f, length_digits w v) in
      number_read w low high n xs a l (ap (in_range low high) e ∙ i) ∙ rw e

  pub letter-from : (set : List ℕ) (v : ℕ) → From xs a (v ∷ []) post → member set v ≡ true → letter_field set xs (Ok a) ≡ record { value = v; next = Ok (a + 1) }
  letter-from set v f m =
      let e : get_or xs a 0 ≡ v = from_byte v [] post f in
      let l : a < length xs = omega (arith, from-length (v ∷ []) post f) in
      letter_read set xs a l (ap (member set) e ∙ m) ∙ rw e

  pub text-from :
      (t : List ℕ) → From xs a (t ++ (0 ∷ [])) post → member t 0 ≡ false
      → text_field xs (Ok a) ≡ record { value = record { start = a; length = length t }; next = Ok (a + length t + 1) }
  text-from t f h =
      text_read xs a (length t) (ap until_zero (f.is ∙ append_assoc t (0 ∷ []) post) ∙ until_text t post h)
      (omega (arith, from-length (t ++ (0 ∷ [])) post f, length-append t (0 ∷ [])))

  pub bytes-from : (bs : List ℕ) → From xs a bs post → bytes_field (length bs) xs (Ok a) ≡ record { value = record { start = a; length = length bs }; next = Ok (a + length bs) }
  bytes-from bs f = bytes_read xs a (length bs) (omega (arith, from-length bs post f))
