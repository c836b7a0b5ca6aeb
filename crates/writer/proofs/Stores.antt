-- Storing one list after another. Assumes nothing.
use Prim.Native.Nat.{ℕ, ◌+◌, ◌≤◌}
use mathlib.Core.List.{List, [], ◌∷◌, ◌++◌}
use mathlib.Core.Path.{◌≡◌, refl, ◌∙◌, ap}
use native.Mathlib.Omega.{arith}
use lib.ListN.{length, drop, length-append}
use lib.Seq.{sets, sets-eq, length-sets}
use Rattle.message.specs.Pieces.{Piece, bytes_of}
use Rattle.copying.proofs.Copies.{sets_append}
use Rattle.message.proofs.Judged.{length_digits}
use Rattle.writer.specs.declared.laying.Pen.{Pen}
use Rattle.writer.specs.Store.{Spot, spot, put, stands, Lays, Stored}

pub put_both :
    (xs ys : List ℕ) (t : Spot) {s u : Spot} → s ≡ put xs t → u ≡ put ys s → (u ≡ put (xs ++ ys) t)
unfolding put
put_both xs ys t p q =
    let k : t.at + length xs + length ys ≡ t.at + length (xs ++ ys) = omega (arith, length-append xs ys) in
    q ∙ rw (p, sets_append t.out t.at xs ys (t.at + length xs) refl, k)

-- A PEN

pub lays : (bs : List ℕ) (p q : Pen) → q.out.now ≡ sets p.out.now p.at bs → q.at ≡ p.at + length bs → Lays bs p q
unfolding put
lays bs p q e k = record { same_length = ap length e ∙ length-sets p.out.now p.at bs; laid = rw (e, k); at = k }

pub lays_none : (p : Pen) → Lays [] p p
unfolding put
lays_none p = let z : p.at ≡ p.at + 0 = omega arith in record { same_length = refl; laid = ap (spot p.out.now) z; at = z }

pub lays_both : (xs ys : List ℕ) {p q r : Pen} → Lays xs p q → Lays ys q r → Lays (xs ++ ys) p r
lays_both xs ys {p} e f =
    record {
      same_length = f.same_length ∙ e.same_length;
      laid = put_both xs ys (stands p) e.laid f.laid;
      at = omega (arith, e.at, f.at, length-append xs ys);
    }

-- how long what is laid is
pub ruleset lengths = (length-append, length_digits)

-- PIECES

abbrev pub puts : List Piece → Spot → Spot
puts [] s = s
puts (p ∷ ps) s = puts ps (put p.bytes s)

pub puts_append : (ps qs : List Piece) (s : Spot) → puts (ps ++ qs) s ≡ puts qs (puts ps s)
puts_append [] qs s = refl
puts_append (p ∷ ps) qs s = puts_append ps qs (put p.bytes s)

puts_joined : (ps : List Piece) (l : List ℕ) (at : ℕ) → (puts ps (spot l at)).out ≡ sets l at (bytes_of ps)
unfolding put
puts_joined [] l at = refl
puts_joined (p ∷ ps) l at = puts_joined ps (sets l at p.bytes) (at + length p.bytes) ∙ sets_append l at p.bytes (bytes_of ps) (at + length p.bytes) refl

-- pieces stored from the front, of a whole that fits
pub stored_all : (ps : List Piece) (out : List ℕ) → length (bytes_of ps) ≤ length out → {o : List ℕ} (at : ℕ) → spot o at ≡ puts ps (spot out 0) → Stored (bytes_of ps) out o
stored_all ps out fits at q =
    let ys = bytes_of ps in
    let z : 0 + length ys ≡ length ys = omega arith in
    ap (λ (s : Spot). s.out) q ∙ puts_joined ps out 0 ∙ sets-eq ys out 0 (omega arith) ∙ ap (λ (k : ℕ). ys ++ drop k out) z

-- the same, as a pen left it
pub stored_by : (ps : List Piece) (out : List ℕ) {o : List ℕ} (p : Pen) → length (bytes_of ps) ≤ length out → o ≡ p.out.now → stands p ≡ puts ps (spot out 0) → Stored (bytes_of ps) out o
stored_by ps out p fits e q = rw e (stored_all ps out fits p.at q)
