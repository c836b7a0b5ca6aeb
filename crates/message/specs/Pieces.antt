-- For contracts only. Writing in a shorter form, which code and proofs use: a message is a list of pieces, what lies in the source in its layout being one
-- piece that is judged as a whole. It gives what the definition of writing gives (proofs/Short).
use Rattle.std.specs.Prelude.{ℕ, ◌+◌, ◌-◌, List, [], ◌∷◌, ◌++◌, Bool, not, cond, length, get_or, take, drop, eqb, leb, Ok, Err, Option, Some}
use Rattle.wire.specs.Cursors.{Cursor, refuse}
use Rattle.wire.specs.Numbers.{most32}
use Rattle.wire.specs.Fields.{in_range, member}
use Rattle.message.specs.declared.Version.{Version}
use Rattle.message.specs.declared.Message.{Message}
use Rattle.message.specs.Layout.{Field, Part, number, constant, letter, text, value, column, one, block_xid, groups, tuple, optional_tuple, column_letters, has_value, groups_end, tuple_end}
use Rattle.message.specs.Kinds.{layout, letter_of, Kind}
use Rattle.message.specs.Versions.{version_allows, version_has}
use Rattle.message.specs.Messages.{largest}
use Rattle.message.specs.Encode.{digits, cut, from_to, kind_of_message, parts_of}
use Rattle.message.specs.Write.{Writing, bytes, refused, arity, arities}

-- a piece's bytes, and its judgement, in which the first byte stands at `start`: where it ends, or why and where it is refused
pub record Piece : Type 0 where
  pub bytes : List ℕ
  pub start : ℕ
  pub judgement : Cursor

-- a judgement, its start moved to `at` in the message being written. What ends or is refused past the largest message is too long:
-- a refusal stands there only behind a good field that ended there
unfoldable pub placed : ℕ → ℕ → Cursor → Cursor
placed at start (Ok e) = cond (leb (at + (e - start)) largest) (Ok (at + (e - start))) (refuse 6 0)
placed at start (Err r) = cond (leb (at + (r.offset - start)) largest) (refuse r.number (at + (r.offset - start))) (refuse 6 0)

-- where a judgement leads from a cursor
abbrev pub advanced : ℕ → Cursor → Cursor → Cursor
advanced start j (Ok at) = placed at start j
advanced start j (Err r) = Err r

abbrev pub step : Piece → Cursor → Cursor
step p c = advanced p.start p.judgement c

abbrev pub steps : List Piece → Cursor → Cursor
steps [] c = c
steps (p ∷ ps) c = steps ps (step p c)

abbrev pub bytes_of : List Piece → List ℕ
bytes_of [] = []
bytes_of (p ∷ ps) = p.bytes ++ bytes_of ps

-- THE PIECES

abbrev pub piece : List ℕ → Cursor → Piece
piece bs j = record { bytes = bs; start = 0; judgement = j }

-- a field of w bytes that is good, else refusal n
abbrev pub tested : Bool → ℕ → ℕ → Cursor
tested t w n = cond t (Ok w) (refuse n 0)

abbrev pub number_piece : (w low high n : ℕ) → ℕ → Piece
number_piece w low high n v = piece (digits w v) (tested (in_range low high v) w n)

abbrev pub letter_piece : List ℕ → ℕ → Piece
letter_piece set v = piece (v ∷ []) (tested (member set v) 1 4)

abbrev pub byte_piece : ℕ → Piece
byte_piece k = piece (k ∷ []) (Ok 1)

-- a length of 4 bytes, however large
abbrev pub length_piece : ℕ → Piece
length_piece n = piece (digits 4 n) (Ok 4)

abbrev pub text_judgement : List ℕ → (start n : ℕ) → Cursor
text_judgement src start n = cond (leb (start + n) (length src)) (cond (member (cut src start n) 0) (refuse 4 0) (Ok (n + 1))) (refuse 2 0)

abbrev pub text_piece : List ℕ → (start n : ℕ) → Piece
text_piece src start n = piece (cut src start n ++ (0 ∷ [])) (text_judgement src start n)

abbrev pub content_piece : List ℕ → (start n : ℕ) → Piece
content_piece src start n = piece (cut src start n) (tested (leb (start + n) (length src)) n 2)

-- what lies in the source in its layout, from `start` to where reading gets
abbrev pub section_piece : List ℕ → ℕ → Cursor → Piece
section_piece src start end = record { bytes = from_to src start end; start = start; judgement = end }

abbrev pub xid_bytes : Bool → ℕ → List ℕ
xid_bytes b v = cond b (digits 4 v) []

-- an id that is not 0
abbrev pub id_judgement : ℕ → Cursor
id_judgement v = tested (in_range 1 most32 v) 4 4

abbrev pub xid_judgement : Bool → ℕ → Cursor
xid_judgement b v = cond b (id_judgement v) (tested (eqb v 0) 0 4)

abbrev pub xid_piece : Bool → ℕ → Piece
xid_piece b v = piece (xid_bytes b v) (xid_judgement b v)

abbrev pub value_pieces : List ℕ → (start n : ℕ) → List Piece
value_pieces src start n = length_piece n ∷ content_piece src start n ∷ []

abbrev pub field_pieces : Field → List ℕ → List ℕ → List Piece
field_pieces (number w low high) src v = number_piece w low high 4 (get_or v 0 0) ∷ []
field_pieces (constant k) src v = byte_piece k ∷ []
field_pieces (letter set) src v = letter_piece set (get_or v 0 0) ∷ []
field_pieces text src v = text_piece src (get_or v 0 0) (get_or v 1 0) ∷ []
field_pieces value src v = value_pieces src (get_or v 0 0) (get_or v 1 0)
field_pieces column src v = letter_piece column_letters (get_or v 0 0) ∷ cond (has_value (get_or v 0 0)) (value_pieces src (get_or v 1 0) (get_or v 2 0)) []

abbrev pub group_pieces : List Field → List ℕ → List ℕ → List Piece
group_pieces [] src v = []
group_pieces (f ∷ fs) src v = field_pieces f src (take (arity f) v) ++ group_pieces fs src (drop (arity f) v)

abbrev pub tuple_piece : List ℕ → ℕ → Piece
tuple_piece src start = section_piece src start (tuple_end src (Ok start))

-- a letter and a tuple, or nothing where the letter is 0
abbrev pub old_pieces : List ℕ → List ℕ → (letter start : ℕ) → List Piece
old_pieces set src l start = cond (eqb l 0) [] (letter_piece set l ∷ tuple_piece src start ∷ [])

abbrev pub part_pieces : Bool → Part → List ℕ → List ℕ → List Piece
part_pieces b (one f) src v = field_pieces f src v
part_pieces b block_xid src v = xid_piece b (get_or v 0 0) ∷ []
part_pieces b (groups w low high between fs) src v =
    let start = get_or (drop 1 v) (arities between) 0 in
    number_piece w low high 6 (get_or v 0 0) ∷ group_pieces between src (drop 1 v) ++ (section_piece src start (groups_end fs src (get_or v 0 0) (Ok start)) ∷ [])
part_pieces b tuple src v = tuple_piece src (get_or v 0 0) ∷ []
part_pieces b (optional_tuple set) src v = old_pieces set src (get_or v 0 0) (get_or v 1 0)

abbrev pub layout_pieces : Bool → List Part → List ℕ → List (List ℕ) → List Piece
layout_pieces b [] src vs = []
layout_pieces b (p ∷ ps) src vs = part_pieces b p src (get_or vs 0 []) ++ layout_pieces b ps src (drop 1 vs)

-- the letter and the fields
abbrev pub message_pieces : Bool → Message → List ℕ → List Piece
message_pieces b m src = let k = kind_of_message m in byte_piece (letter_of k) ∷ layout_pieces b (layout k) src (parts_of m)

abbrev pub outcome : Cursor → List ℕ → Writing
outcome (Ok e) bs = bytes bs
outcome (Err r) bs = refused r.number r.offset

-- version, then kind: where the fields start, behind the letter, or the refusal
unfoldable pub opened : Version → Bool → Option Kind → Cursor
opened v b k = cond (not (version_allows v b)) (refuse 1 0) (cond (not (version_has v k)) (refuse 3 0) (Ok 1))

-- where the message ends, or the first refusal
abbrev pub message_end : Version → Bool → Message → List ℕ → Cursor
message_end v b m src = let k = kind_of_message m in steps (layout_pieces b (layout k) src (parts_of m)) (opened v b (Some k))

unfoldable pub write_short : Version → Bool → Message → List ℕ → Writing
write_short v b m src = outcome (message_end v b m src) (bytes_of (message_pieces b m src))
