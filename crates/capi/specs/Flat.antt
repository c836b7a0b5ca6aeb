-- To be believed (for C). The flat form of a message: a row of 16 numbers. What reading answers as a row, and the message whose flat form a row is.
use Rattle.std.specs.Prelude.{ℕ, zero, suc, ◌+◌, ◌^◌, List, [], ◌∷◌, ◌++◌, Bool, true, cond, ◌&&◌, eqb, ltb, get_or, length, Ok, Err, Option, None, Some}
use Rattle.message.specs.declared.Message.{Message}
use Rattle.message.specs.declared.Version.{Version}
use Rattle.message.specs.Messages.{Read, message_of, read_message}
use Rattle.message.specs.Layout.{Field, Part, number, constant, letter, text, value, column, one, block_xid, groups, tuple, optional_tuple}
use Rattle.message.specs.declared.kinds.Kind.{Kind}
use Rattle.message.specs.Kinds.{kind_number, kind_numbered, layout}
use Rattle.message.specs.Encode.{kind_of_message, parts_of}
use Rattle.message.specs.Write.{Writing, refused, write_message}
use Rattle.capi.specs.Filled.{padded, inside}

-- 16 numbers
abbrev pub row : List ℕ → List ℕ
row ns = padded 16 ns

abbrev pub joined : List (List ℕ) → List ℕ
joined [] = []
joined (ns ∷ rest) = ns ++ joined rest

-- THE FLAT FORM

-- the kind's number, and the numbers of the parts of its layout
abbrev pub flat : Message → List ℕ
flat m = row (kind_number (Some (kind_of_message m)) ∷ joined (parts_of m))

-- THE MESSAGE OF A ROW

-- a number that w bytes hold, else 0
unfoldable pub in_bytes : ℕ → ℕ → ℕ
in_bytes w n = cond (ltb n (256 ^ w)) n 0

-- how many bytes hold each number of a field; of a start or a length 8
abbrev pub field_widths : Field → List ℕ
field_widths (number w low high) = w ∷ []
field_widths (constant k) = []
field_widths (letter set) = 1 ∷ []
field_widths text = 8 ∷ 8 ∷ []
field_widths value = 8 ∷ 8 ∷ []
field_widths column = 1 ∷ 8 ∷ 8 ∷ []

abbrev pub group_widths : List Field → List ℕ
group_widths [] = []
group_widths (f ∷ fs) = field_widths f ++ group_widths fs

abbrev pub widths : Part → List ℕ
widths (one f) = field_widths f
widths block_xid = 4 ∷ []
widths (groups w low high between fs) = w ∷ group_widths between ++ (8 ∷ [])
widths tuple = 8 ∷ []
widths (optional_tuple set) = 1 ∷ 8 ∷ []

-- the numbers of a row from place i on, as these widths hold them
abbrev pub taken : List ℕ → ℕ → List ℕ → List ℕ
taken ns i [] = []
taken ns i (w ∷ ws) = in_bytes w (get_or ns i 0) ∷ taken ns (suc i) ws

-- the parts of a layout, from place i of a row on
abbrev pub parted : List ℕ → ℕ → List Part → List (List ℕ)
parted ns i [] = []
parted ns i (p ∷ ps) = taken ns i (widths p) ∷ parted ns (i + length (widths p)) ps

abbrev pub kind_in : List ℕ → Option Kind
kind_in ns = kind_numbered (in_bytes 1 (get_or ns 0 0))

-- the message of a kind that a row's numbers make
abbrev pub message_in : List ℕ → Option Kind → Option Message
message_in ns None = None
message_in ns (Some k) = Some (message_of k (parted ns 1 (layout k)))

-- whether the first n numbers are the same
unfoldable pub same : ℕ → List ℕ → List ℕ → Bool
same zero a b = true
same (suc n) a b = eqb (get_or a n 0) (get_or b n 0) && same n a b

-- a message, where the row is its flat form
abbrev pub whole : List ℕ → Option Message → Option Message
whole ns None = None
whole ns (Some m) = cond (same 16 (flat m) ns) (Some m) None

-- the message whose flat form a row of 16 numbers is
abbrev pub unflat : List ℕ → Option Message
unflat ns = whole ns (message_in ns (kind_in ns))

-- READING

-- what reading gives
abbrev pub read_flat : (version in_block : ℕ) → List ℕ → Read
read_flat version in_block xs = read_message (record { number = version }) (inside in_block) xs

-- the number that is returned: 0, or a refusal's
abbrev pub read_number : Read → ℕ
read_number (Ok m) = 0
read_number (Err r) = r.number

-- the row: the flat form, or a refusal's offset
abbrev pub read_row : Read → List ℕ
read_row (Ok m) = flat m
read_row (Err r) = row (r.offset ∷ [])

-- WRITING

-- what writing the message of a row gives: one that is no message's is refused before all else
abbrev pub write_found : Version → Bool → Option Message → List ℕ → Writing
write_found v b None src = refused 4 0
write_found v b (Some m) src = write_message v b m src

abbrev pub write_flat : (version in_block : ℕ) → (row source : List ℕ) → Writing
write_flat version in_block ns src = write_found (record { number = version }) (inside in_block) (unflat ns) src
