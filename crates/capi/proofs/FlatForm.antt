-- THE FLAT FORM LOSES NOTHING. Assumes nothing.
use Prim.Native.Nat.{ℕ, zero, suc}
use mathlib.Core.List.{List, [], ◌∷◌}
use Rattle.std.specs.Prelude.{Some}
use mathlib.Core.Path.{◌≡◌, refl, sym, ◌∙◌, ap}
use native.Mathlib.Omega.{arith}
use lib.ListN.{length}
use lib.Seq.{ext_get_or}
use Rattle.message.specs.declared.Message.{Message}
use Rattle.message.specs.Kinds.{layout, kind_number}
use Rattle.message.specs.Encode.{kind_of_message, parts_of}
use Rattle.message.proofs.Parts.{message_back}
use Rattle.capi.specs.Filled.{padded}
use Rattle.capi.specs.Flat.{joined, flat, kind_in, message_in, unflat}
use Rattle.capi.proofs.Sameness.{same_self, same_at}
use Rattle.capi.proofs.Fitting.{Fits, parts-in_bytes}
use Rattle.capi.proofs.Made.{made, whole_says, in_fits}

-- a message comes back from its flat form
pub unflat-flat : (m : Message) → Fits m → unflat (flat m) ≡ Some m
unflat-flat m f =
    rw (made m, parts-in_bytes (layout (kind_of_message m)) (parts_of m) f.0, message_back m f.1, same_self 16 (flat m))

-- two messages with one flat form are one
pub flat-one : (m m' : Message) → Fits m → Fits m' → flat m ≡ flat m' → m ≡ m'
flat-one m m' f f' e =
    let q : Some m ≡ Some m' = sym (unflat-flat m f) ∙ ap unflat e ∙ unflat-flat m' f' in
    cc

-- AND ADDS NOTHING: the message of a row of 16 numbers

length-padded : (n : ℕ) (ns : List ℕ) → length (padded n ns) ≡ n
length-padded zero ns = refl
length-padded (suc n) [] = ap suc (length-padded n [])
length-padded (suc n) (x ∷ ns) = ap suc (length-padded n ns)

-- a row is the flat form of its message
pub flat-unflat : (ns : List ℕ) (m : Message) → length ns ≡ 16 → unflat ns ≡ Some m → flat m ≡ ns
flat-unflat ns m l q =
    let s = (whole_says ns (message_in ns (kind_in ns)) m q).1 in
    let n : length (flat m) ≡ 16 = length-padded 16 (kind_number (Some (kind_of_message m)) ∷ joined (parts_of m)) in
    ext_get_or 0 (flat m) ns (n ∙ sym l) (λ i h. same_at 16 (flat m) ns s i (omega arith))

-- whose numbers fit their fields
pub unflat-fits : (ns : List ℕ) (m : Message) → unflat ns ≡ Some m → Fits m
unflat-fits ns m q = in_fits ns (kind_in ns) m (whole_says ns (message_in ns (kind_in ns)) m q).0
