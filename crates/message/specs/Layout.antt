-- To be believed (demand 1). What a layout is made of, and the one way to read it: fields from left to right, each first for presence and then for content.
use Rattle.std.specs.Prelude.{ℕ, zero, suc, List, [], ◌∷◌, ◌++◌, Bool, cond, ◌||◌, eqb, get_or}
use Rattle.wire.specs.Cursors.{Cursor, Taken}
use Rattle.wire.specs.declared.Span.{Span}
use Rattle.wire.specs.Numbers.{most32}
use Rattle.wire.specs.Fields.{number_field, letter_field, text_field, value_field, position_of, no_number, no_span}

-- THE DESCRIPTORS

-- a field that is read whole
pub data Field : Type 0 where
  -- w bytes that spell a number from `low` to `high`
  number : (w low high : ℕ) → Field
  -- this letter, which gives no number
  constant : ℕ → Field
  -- one of these letters
  letter : List ℕ → Field
  text : Field
  -- a signed length of 32 bits, and that many bytes
  value : Field
  -- a column of a tuple: its letter, and its value where it has one
  column : Field

-- a part of a layout
pub data Part : Type 0 where
  one : Field → Part
  -- [x]: an xid that is there only inside a stream block
  block_xid : Part
  -- a count of w bytes from `low` to `high`, the fields between, and that many groups of fields
  groups : (w low high : ℕ) → List Field → List Field → Part
  -- a tuple, its count included
  tuple : Part
  -- one of these letters and a tuple, or nothing
  optional_tuple : List ℕ → Part

-- NUMBERS AND LETTERS, each named once

-- an xid, sub-xid or relation OID: not 0 (HOUSE)
abbrev pub id : Field
id = number 4 1 most32

-- the most columns that a tuple or a relation has (document 01, "Numbers that bound it")
abbrev pub most_columns : ℕ
most_columns = 1600

-- the letters of a column: null, unchanged, text, binary
abbrev pub column_letters : List ℕ
column_letters = 0x6E ∷ 0x75 ∷ 0x74 ∷ 0x62 ∷ []

-- `t` and `b` have a value, `n` and `u` have none
abbrev pub has_value : ℕ → Bool
has_value l = eqb l 0x74 || eqb l 0x62

-- READING

-- what reading gives: numbers, and where reading stands.
-- A text or value gives its start and length; groups their count, the numbers between and where the first group starts;
-- a tuple where it starts; an optional tuple its letter and start, or 0 and 0;
-- a column its letter and its value's start and length, 0 and 0 where it has none
pub record Step : Type 0 where
  pub values : List ℕ
  pub next : Cursor

-- a column's letter, its value, and its end
abbrev pub column_letter : List ℕ → Cursor → Taken ℕ
column_letter xs c = letter_field column_letters xs c

unfoldable pub column_value : List ℕ → Cursor → Span
column_value xs c =
    let k = column_letter xs c in
    cond (has_value k.value) (value_field xs k.next).value (no_span c).value

unfoldable pub column_end : List ℕ → Cursor → Cursor
column_end xs c =
    let k = column_letter xs c in
    cond (has_value k.value) (value_field xs k.next).next k.next

abbrev pub read_field : Field → List ℕ → Cursor → Step
read_field (number w low high) xs c = let f = number_field w low high 4 xs c in record { values = f.value ∷ []; next = f.next }
read_field (constant k) xs c = record { values = []; next = (letter_field (k ∷ []) xs c).next }
read_field (letter set) xs c = let f = letter_field set xs c in record { values = f.value ∷ []; next = f.next }
read_field text xs c = let f = text_field xs c in record { values = f.value.start ∷ f.value.length ∷ []; next = f.next }
read_field value xs c = let f = value_field xs c in record { values = f.value.start ∷ f.value.length ∷ []; next = f.next }
read_field column xs c =
    let v = column_value xs c in
    record { values = (column_letter xs c).value ∷ v.start ∷ v.length ∷ []; next = column_end xs c }

abbrev pub read_group : List Field → List ℕ → Cursor → Step
read_group [] xs c = record { values = []; next = c }
read_group (f ∷ fs) xs c =
    let s = read_field f xs c in
    let r = read_group fs xs s.next in
    record { values = s.values ++ r.values; next = r.next }

abbrev pub times : ℕ → (Cursor → Cursor) → Cursor → Cursor
times zero f c = c
times (suc n) f c = times n f (f c)

-- the end of n groups, one after the other
unfoldable pub groups_end : List Field → List ℕ → ℕ → Cursor → Cursor
groups_end fs xs n c = times n (λ (d : Cursor). (read_group fs xs d).next) c

abbrev pub read_groups : ℕ → ℕ → ℕ → List Field → List Field → List ℕ → Cursor → Step
read_groups w low high between fs xs c =
    let n = number_field w low high 6 xs c in
    let b = read_group between xs n.next in
    record {
      values = n.value ∷ b.values ++ (position_of b.next ∷ []);
      next = groups_end fs xs n.value b.next;
    }

-- how many columns a tuple has
abbrev pub column_count : List ℕ → Cursor → Taken ℕ
column_count xs c = number_field 2 0 most_columns 6 xs c

-- the end of a tuple: a count of columns, and the columns
unfoldable pub tuple_end : List ℕ → Cursor → Cursor
tuple_end xs c = let n = column_count xs c in groups_end (column ∷ []) xs n.value n.next

pub record Optional : Type 0 where
  pub letter : ℕ
  pub start : ℕ
  pub next : Cursor

-- a letter of the set and a tuple after it; where no such letter stands, nothing, and reading stays
unfoldable pub optional : List ℕ → List ℕ → Cursor → Optional
optional set xs c =
    let k = letter_field set xs c in
    cond (eqb k.value 0)
    (record { letter = 0; start = 0; next = c })
    (record { letter = k.value; start = position_of k.next; next = tuple_end xs k.next })

-- the number that a field gives
abbrev pub number_of : Field → List ℕ → Cursor → Taken ℕ
number_of f xs c = let s = read_field f xs c in record { value = get_or s.values 0 0; next = s.next }

-- an xid inside a block, and outside 0 and no byte
unfoldable pub xid_field : Bool → List ℕ → Cursor → Taken ℕ
xid_field b xs c = cond b (number_of id xs c) (no_number c)

abbrev pub read_part : Bool → Part → List ℕ → Cursor → Step
read_part b (one f) xs c = read_field f xs c
read_part b block_xid xs c = let f = xid_field b xs c in record { values = f.value ∷ []; next = f.next }
read_part b (groups w low high between fs) xs c = read_groups w low high between fs xs c
read_part b tuple xs c = record { values = position_of c ∷ []; next = tuple_end xs c }
read_part b (optional_tuple set) xs c = let o = optional set xs c in record { values = o.letter ∷ o.start ∷ []; next = o.next }

-- the numbers of each part, and where reading stands
pub record Fields : Type 0 where
  pub parts : List (List ℕ)
  pub next : Cursor

abbrev pub read_fields : Bool → List Part → List ℕ → Cursor → Fields
read_fields b [] xs c = record { parts = []; next = c }
read_fields b (p ∷ ps) xs c =
    let s = read_part b p xs c in
    let r = read_fields b ps xs s.next in
    record { parts = s.values ∷ r.parts; next = r.next }
