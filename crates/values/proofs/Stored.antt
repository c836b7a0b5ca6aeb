-- The cases of writing. Assumes nothing.
use Prim.Native.Nat.{ℕ, ◌+◌, ◌-◌, ◌<◌, ◌≤◌}
use mathlib.Core.List.{List, ◌++◌}
use mathlib.Core.Path.{◌≡◌, sym, ◌∙◌, ap}
use native.Mathlib.Omega.{arith}
use borrow.Author.Tests.{le-leb, lt-leb}
use lib.ListN.{length, take, drop, length-drop}
use lib.Seq.{sets-eq, length-take-le}
use Rattle.message.specs.Encode.{digits, cut}
use Rattle.message.specs.Write.{bytes, refused}
use Rattle.copying.specs.Copies.{laid_in}
use Rattle.message.proofs.Judged.{length_digits}
use Rattle.std.specs.Prelude.{Result, Ok}
use Rattle.wire.specs.declared.Refusal.{Refusal}
use Rattle.wire.specs.Cursors.{refuse}
use Rattle.writer.specs.Answer.{Settles}
use Rattle.values.specs.declared.Bits.{Bits}
use Rattle.values.specs.declared.Bits.TheVariants.{Number, Part}
use Rattle.values.specs.Writes.{written}

-- bytes that fit, laid at the front
laid : (bs out : List ℕ) {out' : List ℕ} → length bs ≤ length out → out' ≡ laid_in out bs → out' ≡ bs ++ drop (length bs) out
laid bs out h e =
    let z : 0 + length bs ≡ length bs = omega arith in
    e ∙ rw (le-leb (length bs) (length out) h) (sets-eq bs out 0 (omega arith) ∙ ap (λ (k : ℕ). bs ++ drop k out) z)

module _ (x : Bits) (src out : List ℕ) where
  given : {f : Bits} → x ≡ f → written x src ≡ written f src
  given e = ap (λ (f : Bits). written f src) e

  whole : (bs : List ℕ) {r : Result ℕ Refusal} {out' : List ℕ} → written x src ≡ bytes bs → length bs ≤ length out → r ≡ Ok (length bs) → out' ≡ laid_in out bs → Settles (written x src) out r out'
  whole bs w h p q =
      record {
        answer = p ∙ rw (w, le-leb (length bs) (length out) h);
        output = laid bs out h q ∙ rw (w, le-leb (length bs) (length out) h);
      }

  full : (bs : List ℕ) {r : Result ℕ Refusal} → written x src ≡ bytes bs → length out < length bs → r ≡ refuse 13 0 → Settles (written x src) out r out
  full bs w h p =
      record {
        answer = p ∙ rw (w, lt-leb (length bs) (length out) h);
        output = rw (w, lt-leb (length bs) (length out) h);
      }

  module _ (w n : ℕ) (form : x ≡ Number w n) where
    size : length (digits w n) ≡ w
    size = length_digits w n

    pub number_full : {r : Result ℕ Refusal} → length out < w → r ≡ refuse 13 0 → Settles (written x src) out r out
    number_full h p = full (digits w n) (given form) (omega (arith, size)) p

    pub number-whole : {out' : List ℕ} → w ≤ length out → out' ≡ laid_in out (digits w n) → Settles (written x src) out (Ok w) out'
    number-whole h q = whole (digits w n) (given form) (omega (arith, size)) (ap Ok (sym size)) q

  module _ (s n : ℕ) (form : x ≡ Part s n) where
    pub part_lacking : {r : Result ℕ Refusal} → length src < s + n → r ≡ refuse 2 0 → Settles (written x src) out r out
    part_lacking h p =
        let w : written x src ≡ refused 2 0 = given form ∙ rw (lt-leb (s + n) (length src) h) in
        record { answer = p ∙ rw w; output = rw w }

    module _ (lies : s + n ≤ length src) where
      there : written x src ≡ bytes (cut src s n)
      there = given form ∙ rw (le-leb (s + n) (length src) lies)

      long : length (cut src s n) ≡ n
      long = length-take-le n (drop s src) (simp length-drop (omega arith))

      pub part_full : {r : Result ℕ Refusal} → length out < n → r ≡ refuse 13 0 → Settles (written x src) out r out
      part_full h p = full (cut src s n) there (omega (arith, long)) p

      pub part-whole : {out' part : List ℕ} → n ≤ length out → part ≡ take (s + n - s) (drop s src) → out' ≡ laid_in out part → Settles (written x src) out (Ok n) out'
      part-whole h e q =
          let m : s + n - s ≡ n = omega arith in
          whole (cut src s n) there (omega (arith, long)) (ap Ok (sym long)) (q ∙ rw (e, m))
