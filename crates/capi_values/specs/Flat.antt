-- To be believed (for C). The flat form of a binary value: three numbers. What writing one gives.
use Rattle.std.specs.Prelude.{ℕ, List, [], ◌∷◌, cond, ◌&&◌, eqb, leb, get_or, Option, None, Some}
use Rattle.message.specs.Write.{Writing, refused}
use Rattle.values.specs.declared.ValueKind.{ValueKind}
use Rattle.values.specs.declared.Value.{Value}
use Rattle.values.specs.declared.Bits.{Bits}
use Rattle.values.specs.declared.Bits.TheVariants.{Number, Part}
use Rattle.values.specs.Types.{row_of, kind_of_type, is_raw, kind_of, bits_of}
use Rattle.values.specs.Writes.{written}

-- a number's bits and 0; a part's start and length
abbrev pub flat_bits : ℕ → Bits → List ℕ
flat_bits oid (Number width n) = oid ∷ n ∷ 0 ∷ []
flat_bits oid (Part start length) = oid ∷ start ∷ length ∷ []

-- behind the type's OID, which is 0 for a raw value
abbrev pub flat : Value → List ℕ
flat x = flat_bits (row_of (kind_of x)).oid (bits_of x)

-- the bits that a type's OID and two numbers are
abbrev pub bits_of_kind : ValueKind → (oid a b : ℕ) → Option Bits
bits_of_kind x oid a b =
    cond (is_raw x)
    (cond (eqb oid 0) (Some (Part a b)) None)
    (cond (leb a (row_of x).most && eqb b 0) (Some (Number (row_of x).width a)) None)

-- the bits whose flat form three numbers are
abbrev pub bits_in : List ℕ → Option Bits
bits_in ns = let oid = get_or ns 0 0 in bits_of_kind (kind_of_type oid) oid (get_or ns 1 0) (get_or ns 2 0)

-- numbers that are no value's flat form are refused before all else
abbrev pub write_found : Option Bits → List ℕ → Writing
write_found None src = refused 4 0
write_found (Some b) src = written b src

abbrev pub write_flat : List ℕ → List ℕ → Writing
write_flat ns src = write_found (bits_in ns) src
