-- To be believed (demand 2). What writing a message gives, over the layouts that reading interprets: the message's bytes, or the first refusal
-- (document 01, the paragraph on writing under "The refusal table").
use Rattle.std.specs.Prelude.{ℕ, zero, suc, ◌+◌, ◌-◌, List, [], ◌∷◌, ◌++◌, Bool, not, cond, length, get_or, take, drop, eqb, leb, Ok, Err, Some}
use Rattle.wire.specs.Cursors.{Cursor}
use Rattle.wire.specs.Fields.{in_range, member, number_field, letter_field, text_field, bytes_field}
use Rattle.message.specs.declared.Version.{Version}
use Rattle.message.specs.declared.Message.{Message}
use Rattle.message.specs.Layout.{Field, Part, number, constant, letter, text, value, column, one, block_xid, groups, tuple, optional_tuple, id, column_letters, has_value, column_letter, column_count}
use Rattle.message.specs.Kinds.{layout, letter_of}
use Rattle.message.specs.Versions.{version_allows, version_has}
use Rattle.message.specs.Messages.{largest}
use Rattle.message.specs.Encode.{digits, cut, kind_of_message, parts_of}

-- the bytes written so far, or a refusal's number and its offset in the message being written
pub data Writing : Type 0 where
  bytes : List ℕ → Writing
  refused : (n offset : ℕ) → Writing

-- the length so far: past the largest message it is too long
abbrev pub so_far : List ℕ → Writing
so_far bs = cond (leb (length bs) largest) (bytes bs) (refused 6 0)

-- a good field: its bytes follow, and then the length so far is judged
abbrev pub good : List ℕ → Writing → Writing
good field (bytes bs) = so_far (bs ++ field)
good field (refused n offset) = refused n offset

-- a field that is refused at its first byte
abbrev pub bad : ℕ → Writing → Writing
bad n (bytes bs) = refused n (length bs)
bad n (refused m offset) = refused m offset

-- WHAT LIES IN THE SOURCE IN ITS LAYOUT

-- copied field by field: where the next field starts in the source, and what is written
pub record Copy : Type 0 where
  pub from : ℕ
  pub to : Writing

abbrev pub copy : ℕ → Writing → Copy
copy from to = record { from = from; to = to }

-- one field, with the end or the refusal that reading it in the source gives
abbrev pub copied : List ℕ → Cursor → Copy → Copy
copied src (Ok end) c = copy end (good (cut src c.from (end - c.from)) c.to)
copied src (Err r) c = copy c.from (bad r.number c.to)

-- a length, and then the value
abbrev pub copy_value : List ℕ → Copy → Copy
copy_value src c =
    let l = number_field 4 0 0x7FFFFFFF 4 src (Ok c.from) in
    let d = copied src l.next c in
    copied src (bytes_field l.value src (Ok d.from)).next d

-- a letter, and where it says so a value
abbrev pub copy_column : List ℕ → Copy → Copy
copy_column src c =
    let k = column_letter src (Ok c.from) in
    let d = copied src k.next c in
    cond (has_value k.value) (copy_value src d) d

abbrev pub copy_field : Field → List ℕ → Copy → Copy
copy_field (number w low high) src c = copied src (number_field w low high 4 src (Ok c.from)).next c
copy_field (constant k) src c = copied src (letter_field (k ∷ []) src (Ok c.from)).next c
copy_field (letter set) src c = copied src (letter_field set src (Ok c.from)).next c
copy_field text src c = copied src (text_field src (Ok c.from)).next c
copy_field value src c = copy_value src c
copy_field column src c = copy_column src c

abbrev pub copy_group : List Field → List ℕ → Copy → Copy
copy_group [] src c = c
copy_group (f ∷ fs) src c = copy_group fs src (copy_field f src c)

abbrev pub copy_groups : ℕ → List Field → List ℕ → Copy → Copy
copy_groups zero fs src c = c
copy_groups (suc n) fs src c = copy_groups n fs src (copy_group fs src c)

-- a tuple: a count of columns, and the columns
abbrev pub copy_tuple : List ℕ → Copy → Copy
copy_tuple src c =
    let n = column_count src (Ok c.from) in
    copy_groups n.value (column ∷ []) src (copied src n.next c)

-- WHAT THE MESSAGE GIVES

abbrev pub write_number : (w low high n : ℕ) → ℕ → Writing → Writing
write_number w low high n v d = cond (in_range low high v) (good (digits w v) d) (bad n d)

abbrev pub write_letter : List ℕ → ℕ → Writing → Writing
write_letter set v d = cond (member set v) (good (v ∷ []) d) (bad 4 d)

-- a text that lies in the source without its zero byte
abbrev pub write_text : List ℕ → (start n : ℕ) → Writing → Writing
write_text src start n d =
    cond (leb (start + n) (length src))
    (cond (member (cut src start n) 0) (bad 4 d) (good (cut src start n ++ (0 ∷ [])) d))
    (bad 2 d)

abbrev pub write_bytes : List ℕ → (start n : ℕ) → Writing → Writing
write_bytes src start n d = cond (leb (start + n) (length src)) (good (cut src start n) d) (bad 2 d)

-- a length and its bytes; one that is too big for its field makes the message too long at its bytes
abbrev pub write_value : List ℕ → (start n : ℕ) → Writing → Writing
write_value src start n d = write_bytes src start n (good (digits 4 n) d)

-- a letter, and where it says so a value
abbrev pub write_column : List ℕ → (l start n : ℕ) → Writing → Writing
write_column src l start n d =
    cond (has_value l) (write_value src start n (write_letter column_letters l d)) (write_letter column_letters l d)

-- the numbers v of a field
abbrev pub write_field : Field → List ℕ → List ℕ → Writing → Writing
write_field (number w low high) src v d = write_number w low high 4 (get_or v 0 0) d
write_field (constant k) src v d = good (k ∷ []) d
write_field (letter set) src v d = write_letter set (get_or v 0 0) d
write_field text src v d = write_text src (get_or v 0 0) (get_or v 1 0) d
write_field value src v d = write_value src (get_or v 0 0) (get_or v 1 0) d
write_field column src v d = write_column src (get_or v 0 0) (get_or v 1 0) (get_or v 2 0) d

-- how many numbers a field has
abbrev pub arity : Field → ℕ
arity (number w low high) = 1
arity (constant k) = 0
arity (letter set) = 1
arity text = 2
arity value = 2
arity column = 3

abbrev pub arities : List Field → ℕ
arities [] = 0
arities (f ∷ fs) = arity f + arities fs

abbrev pub write_group : List Field → List ℕ → List ℕ → Writing → Writing
write_group [] src v d = d
write_group (f ∷ fs) src v d = write_group fs src (drop (arity f) v) (write_field f src (take (arity f) v) d)

-- an xid that is given where the layout has none, or lacks where it has one, is refused
abbrev pub write_part : Bool → Part → List ℕ → List ℕ → Writing → Writing
write_part b (one f) src v d = write_field f src v d
write_part b block_xid src v d = cond b (write_field id src v d) (cond (eqb (get_or v 0 0) 0) d (bad 4 d))
write_part b (groups w low high between fs) src v d =
    let start = get_or (drop 1 v) (arities between) 0 in
    (copy_groups (get_or v 0 0) fs src (copy start (write_group between src (drop 1 v) (write_number w low high 6 (get_or v 0 0) d)))).to
write_part b tuple src v d = (copy_tuple src (copy (get_or v 0 0) d)).to
write_part b (optional_tuple set) src v d =
    cond (eqb (get_or v 0 0) 0) d (copy_tuple src (copy (get_or v 1 0) (write_letter set (get_or v 0 0) d))).to

abbrev pub write_fields : Bool → List Part → List ℕ → List (List ℕ) → Writing → Writing
write_fields b [] src vs d = d
write_fields b (p ∷ ps) src vs d = write_fields b ps src (drop 1 vs) (write_part b p src (get_or vs 0 []) d)

-- version, then kind, then the letter and the fields
unfoldable pub write_message : Version → Bool → Message → List ℕ → Writing
write_message v in_block m src =
    let k = kind_of_message m in
    cond (not (version_allows v in_block)) (refused 1 0)
    (cond (not (version_has v (Some k))) (refused 3 0)
    (write_fields in_block (layout k) src (parts_of m) (good (letter_of k ∷ []) (bytes []))))
