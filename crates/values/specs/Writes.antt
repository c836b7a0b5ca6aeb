-- To be believed (binary values). What writing a value gives (document 02, #109).
use Rattle.std.specs.Prelude.{ℕ, ◌+◌, List, cond, leb, length}
use Rattle.message.specs.Encode.{digits, cut}
use Rattle.message.specs.Write.{Writing, bytes, refused}
use Rattle.values.specs.declared.Bits.{Bits}
use Rattle.values.specs.declared.Bits.TheVariants.{Number, Part}
use Rattle.values.specs.declared.Value.{Value}
use Rattle.values.specs.Types.{bits_of}

-- a number's digits; a part of the source, and 2 at 0 where the source does not have it
abbrev pub written : Bits → List ℕ → Writing
written (Number width n) src = bytes (digits width n)
written (Part start count) src = cond (leb (start + count) (length src)) (bytes (cut src start count)) (refused 2 0)

-- 13 at 0 for a short output, and what the output holds then, are those of the writer (its `Settles`)
abbrev pub write_value : Value → List ℕ → Writing
write_value x src = written (bits_of x) src
