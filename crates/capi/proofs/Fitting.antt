-- A message whose numbers fit their fields, which every value of the type is. Assumes nothing.
use Prim.Native.Nat.{ℕ, ◌^◌, ◌<◌}
use mathlib.Core.List.{List, [], ◌∷◌}
use mathlib.Core.Path.{◌≡◌, refl}
use Rattle.message.specs.declared.Message.{Message}
use Rattle.message.specs.Layout.{Part}
use Rattle.message.specs.Kinds.{layout}
use Rattle.message.specs.Encode.{kind_of_message, parts_of}
use Rattle.message.proofs.Parts.{TimeFits}
use Rattle.capi.specs.Flat.{in_bytes, widths}
use Rattle.capi.proofs.InBytes.{in_bytes-fits}

-- as many numbers as widths, and each held by its bytes
abbrev pub Fit : (widths numbers : List ℕ) → Type 0
Fit [] [] = Unit {0}
Fit [] (n ∷ ns) = ⊥
Fit (w ∷ ws) [] = ⊥
Fit (w ∷ ws) (n ∷ ns) = (n < 256 ^ w) × Fit ws ns

abbrev pub PartsFit : List Part → List (List ℕ) → Type 0
PartsFit [] [] = Unit {0}
PartsFit [] (v ∷ vs) = ⊥
PartsFit (p ∷ ps) [] = ⊥
PartsFit (p ∷ ps) (v ∷ vs) = Fit (widths p) v × PartsFit ps vs

abbrev pub Fits : Message → Type 0
Fits m = PartsFit (layout (kind_of_message m)) (parts_of m) × TimeFits m

-- WHAT IS HELD OF THEM

abbrev pub all_in_bytes : (widths numbers : List ℕ) → List ℕ
all_in_bytes [] ns = []
all_in_bytes (w ∷ ws) [] = []
all_in_bytes (w ∷ ws) (n ∷ ns) = in_bytes w n ∷ all_in_bytes ws ns

abbrev pub parts_in_bytes : List Part → List (List ℕ) → List (List ℕ)
parts_in_bytes [] vs = []
parts_in_bytes (p ∷ ps) [] = []
parts_in_bytes (p ∷ ps) (v ∷ vs) = all_in_bytes (widths p) v ∷ parts_in_bytes ps vs

all_in_bytes_lem : (ws ns : List ℕ) → Fit ws ns → all_in_bytes ws ns ≡ ns
all_in_bytes_lem [] [] f = refl
all_in_bytes_lem [] (n ∷ ns) f = absurd f
all_in_bytes_lem (w ∷ ws) [] f = absurd f
all_in_bytes_lem (w ∷ ws) (n ∷ ns) f = rw (in_bytes-fits w n f.0, all_in_bytes_lem ws ns f.1)

pub parts-in_bytes : (ps : List Part) (vs : List (List ℕ)) → PartsFit ps vs → parts_in_bytes ps vs ≡ vs
parts-in_bytes [] [] f = refl
parts-in_bytes [] (v ∷ vs) f = absurd f
parts-in_bytes (p ∷ ps) [] f = absurd f
parts-in_bytes (p ∷ ps) (v ∷ vs) f = rw (all_in_bytes_lem (widths p) v f.0, parts-in_bytes ps vs f.1)
