-- The marked examples, proved together: one statement over one table, by computation. Assumes nothing.
use Rattle.std.proofs.Common.{◌≡◌, ℕ, zero, suc, Bool, true, false, List, [], ◌∷◌, map, pos, negsuc, refl}
use Rattle.wire.specs.Numbers.{be, word_at}
use Rattle.wire.specs.Fields.{number_field, letter_field, member, text_field, until_zero, bytes_field, value_field}
use Rattle.message.specs.declared.Message.TheVariants as a
use Rattle.message.specs.Messages.{Read}
use Rattle.std.specs.Prelude.{Result, Ok, Err, Option, Some, None}
use Rattle.wire.specs.declared.Refusal.{Refusal}
use Rattle.wire.specs.Cursors.{refuse}
use Rattle.message.specs.Layout.{column_value, column_end, groups_end, tuple_end, optional, xid_field}
use Rattle.message.specs.Kinds.{kind_among}
use Rattle.message.specs.Versions.{version_allows, version_has}
use Rattle.message.specs.Messages.{span, read_kind, read_message}
use Rattle.message.specs.Encode.{parts_of}
use Rattle.session.specs.Answers.{Answer as Said, Accepted, Change, Refused}
use Rattle.session.specs.History.{Given, given}
use Rattle.session.specs.Rules.{answers, answers_by}
use Rattle.columns.specs.declared.Position.{Position}
use Rattle.columns.specs.declared.Which.TheVariants.{New}
use Rattle.columns.specs.declared.Column.{Column}
use Rattle.columns.specs.declared.RelationColumn.{RelationColumn}
use Rattle.columns.specs.Parts.{span_within, part_of}
use Rattle.columns.specs.Starts.{Started, tuple_position, tuple_start, relation_start}
use Rattle.columns.specs.Steps.{tuple_step, relation_step}
use Rattle.columns.specs.Readers.{span_of}

-- what an example asks
pub data Question : Type 0 where
  -- what bytes are at a version, inside a block or outside
  reading : ℕ → Bool → List ℕ → Question
  -- which columns its new tuple has
  tuple_columns : ℕ → Bool → List ℕ → Question
  -- which namespace, name and columns a Relation has
  relation_texts : ℕ → Bool → List ℕ → Question
  -- what a fresh session of a version answers to messages, each tagged with its place in the list
  giving : ℕ → List (List ℕ) → Question

-- a step, and the bytes of its column's value or name
pub data Holds (A : Type 0) : Type 0 where
  holds : Result (Option A) Refusal → List ℕ → Holds A

pub data Answer : Type 0 where
  reads : Read → Answer
  tuple_has : List (Holds Column) → Answer
  relation_has : (namespace name : List ℕ) → List (Holds RelationColumn) → Answer
  answers_are : List Said → Answer

pub name_bytes : List ℕ → Result (Option RelationColumn) Refusal → List ℕ
name_bytes xs (Ok (Some c)) = part_of xs c.name
name_bytes xs (Ok None) = []
name_bytes xs (Err r) = []

pub tuple_steps : List ℕ → ℕ → Position → List (Holds Column)
tuple_steps xs zero p = []
tuple_steps xs (suc n) p = let s = tuple_step xs p in holds s.item (part_of xs (span_of s.item)) ∷ tuple_steps xs n s.next

pub relation_steps : List ℕ → ℕ → Position → List (Holds RelationColumn)
relation_steps xs zero p = []
relation_steps xs (suc n) p = let s = relation_step xs p in holds s.item (name_bytes xs s.item) ∷ relation_steps xs n s.next

-- the bytes of the text that is a part of a message's layout
pub text_bytes : List ℕ → Read → ℕ → List ℕ
text_bytes xs (Ok m) part = part_of xs (span (parts_of m) part)
text_bytes xs (Err r) part = []

-- as many steps as are left at a start
pub from : {A : Type 0} → Started → (ℕ → Position → List A) → List A
from (Ok p) steps = steps p.left p
from (Err r) steps = []

pub read : ℕ → Bool → List ℕ → Read
read version in_block bytes = read_message (record { number = version }) in_block bytes

pub tagged : ℕ → List (List ℕ) → List Given
tagged n [] = []
tagged n (xs ∷ l) = given xs n ∷ tagged (suc n) l

pub ask : Question → Answer
ask (reading version in_block bytes) = reads (read version in_block bytes)
ask (tuple_columns version in_block bytes) = tuple_has (from (tuple_start New bytes (read version in_block bytes)) (tuple_steps bytes))
ask (relation_texts version in_block bytes) =
    let r = read version in_block bytes in
    relation_has (text_bytes bytes r 2) (text_bytes bytes r 3) (from (relation_start r) (relation_steps bytes))
ask (giving version messages) = answers_are (answers (record { number = version }) [] (tagged 0 messages))

pub record Example : Type 0 where
  pub question : Question
  pub answer : Answer

pub example : Question → Answer → Example
example q r = record { question = q; answer = r }

-- a column of a tuple, with its letter, start and length
pub value : ℕ → ℕ → ℕ → List ℕ → Holds Column
value letter start length bytes = holds (Ok (Some (record { letter = letter; value = record { start = start; length = length } }))) bytes

pub is : ℕ → Bool → List ℕ → Read → Example
is version in_block bytes r = example (reading version in_block bytes) (reads r)

-- the starred examples of document 01, "Marked examples"; the number of each stands beside its rows
pub table : List Example
table =
    -- 1
    is 1 false ([])
    (refuse 2 0)
    -- 2
    ∷ is 2 false (0x45 ∷ [])
    (Ok a.StreamStop)
    ∷ is 1 false (0x45 ∷ [])
    (refuse 3 0)
    ∷ is 2 false (0x45 ∷ 0 ∷ [])
    (refuse 5 1)
    -- 3
    ∷ is 1 false (0x42 ∷ 0 ∷ 0 ∷ 0 ∷ 0 ∷ 0 ∷ 0 ∷ 0 ∷ 0x10 ∷ 0 ∷ 0 ∷ 0 ∷ 0 ∷ 0 ∷ 0 ∷ 0 ∷ 0 ∷ 0 ∷ 0 ∷ 0 ∷ 7 ∷ [])
    (Ok (a.Begin (record { final_lsn = 16; time = pos 0; xid = 7 })))
    -- 4
    ∷ is 1 false (0x42 ∷ 0 ∷ 0 ∷ 0 ∷ 0 ∷ 0 ∷ 0 ∷ 0 ∷ 0x10 ∷ 0 ∷ 0 ∷ 0 ∷ 0 ∷ 0 ∷ 0 ∷ 0 ∷ 0 ∷ 0 ∷ 0 ∷ 0 ∷ [])
    (refuse 2 17)
    ∷ is 1 false (0x42 ∷ 0 ∷ 0 ∷ 0 ∷ 0 ∷ 0 ∷ 0 ∷ 0 ∷ 0x10 ∷ 0 ∷ 0 ∷ 0 ∷ 0 ∷ 0 ∷ 0 ∷ 0 ∷ 0 ∷ 0 ∷ 0 ∷ 0 ∷ 0 ∷ [])
    (refuse 4 17)
    ∷ is 1 false (0x42 ∷ 0 ∷ 0 ∷ 0 ∷ 0 ∷ 0 ∷ 0 ∷ 0 ∷ 0x10 ∷ 0 ∷ 0 ∷ 0 ∷ 0 ∷ 0 ∷ 0 ∷ 0 ∷ 0 ∷ 0 ∷ 0 ∷ 0 ∷ 7 ∷ 0 ∷ [])
    (refuse 5 21)
    -- 5
    ∷ is 1 false (0x49 ∷ 0 ∷ 0 ∷ 0 ∷ 5 ∷ 0x4E ∷ 0 ∷ 2 ∷ 0x6E ∷ 0x74 ∷ 0 ∷ 0 ∷ 0 ∷ 1 ∷ 0x61 ∷ [])
    (Ok (a.Insert (record { xid = 0; relation = 5; tuple = 6 })))
    ∷ example (tuple_columns 1 false (0x49 ∷ 0 ∷ 0 ∷ 0 ∷ 5 ∷ 0x4E ∷ 0 ∷ 2 ∷ 0x6E ∷ 0x74 ∷ 0 ∷ 0 ∷ 0 ∷ 1 ∷ 0x61 ∷ []))
    (tuple_has (value 0x6E 0 0 [] ∷ value 0x74 14 1 (0x61 ∷ []) ∷ []))  -- null, then "a"
    -- 6
    ∷ is 1 false (0x49 ∷ 0 ∷ 0 ∷ 0 ∷ 5 ∷ 0x4E ∷ 0 ∷ 2 ∷ 0x6E ∷ 0x74 ∷ 0 ∷ 0 ∷ 0 ∷ 2 ∷ 0x61 ∷ [])
    (refuse 2 14)
    ∷ is 1 false (0x49 ∷ 0 ∷ 0 ∷ 0 ∷ 5 ∷ 0x4E ∷ 0 ∷ 2 ∷ 0x6E ∷ 0x74 ∷ 0xFF ∷ 0xFF ∷ 0xFF ∷ 0xFF ∷ 0x61 ∷ [])
    (refuse 4 10)
    -- 7
    ∷ is 2 true (0x49 ∷ 0 ∷ 0 ∷ 0 ∷ 9 ∷ 0 ∷ 0 ∷ 0 ∷ 5 ∷ 0x4E ∷ 0 ∷ 0 ∷ [])
    (Ok (a.Insert (record { xid = 9; relation = 5; tuple = 10 })))
    ∷ example (tuple_columns 2 true (0x49 ∷ 0 ∷ 0 ∷ 0 ∷ 9 ∷ 0 ∷ 0 ∷ 0 ∷ 5 ∷ 0x4E ∷ 0 ∷ 0 ∷ []))
    (tuple_has [])
    -- 8
    ∷ is 1 false (0x52 ∷ 0 ∷ 0 ∷ 0 ∷ 5 ∷ 0 ∷ 0x74 ∷ 0 ∷ 0x64 ∷ 0 ∷ 1 ∷ 1 ∷ 0x69 ∷ 0x64 ∷ 0 ∷ 0 ∷ 0 ∷ 0 ∷ 0x17 ∷ 0xFF ∷ 0xFF ∷ 0xFF ∷ 0xFF ∷ [])
    (Ok (a.Relation (record { xid = 0; relation = 5; namespace = record { start = 5; length = 0 }; name = record { start = 6; length = 1 }; identity = 0x64; count = 1; columns = 11 })))
    ∷ example (relation_texts 1 false (0x52 ∷ 0 ∷ 0 ∷ 0 ∷ 5 ∷ 0 ∷ 0x74 ∷ 0 ∷ 0x64 ∷ 0 ∷ 1 ∷ 1 ∷ 0x69 ∷ 0x64 ∷ 0 ∷ 0 ∷ 0 ∷ 0 ∷ 0x17 ∷ 0xFF ∷ 0xFF ∷ 0xFF ∷ 0xFF ∷ []))
    (relation_has [] (0x74 ∷ []) (holds (Ok (Some (record { key = 1; name = record { start = 12; length = 2 }; type_oid = 23; modifier = negsuc 0 }))) (0x69 ∷ 0x64 ∷ []) ∷ []))  -- "t", with "id"
    -- 10
    ∷ example
    (giving 2
    ((0x53 ∷ 0 ∷ 0 ∷ 0 ∷ 7 ∷ 1 ∷ [])  -- S(7, first)
    ∷ (0x52 ∷ 0 ∷ 0 ∷ 0 ∷ 7 ∷ 0 ∷ 0 ∷ 0 ∷ 5 ∷ 0 ∷ 0x74 ∷ 0 ∷ 0x64 ∷ 0 ∷ 1 ∷ 1 ∷ 0x69 ∷ 0x64 ∷ 0 ∷ 0 ∷ 0 ∷ 0 ∷ 0x17 ∷ 0xFF ∷ 0xFF ∷ 0xFF ∷ 0xFF ∷ [])  -- R 5 with one column
    ∷ (0x45 ∷ [])  -- E
    ∷ (0x42 ∷ 0 ∷ 0 ∷ 0 ∷ 0 ∷ 0 ∷ 0 ∷ 0 ∷ 0x10 ∷ 0 ∷ 0 ∷ 0 ∷ 0 ∷ 0 ∷ 0 ∷ 0 ∷ 0 ∷ 0 ∷ 0 ∷ 0 ∷ 9 ∷ [])  -- B
    ∷ (0x49 ∷ 0 ∷ 0 ∷ 0 ∷ 5 ∷ 0x4E ∷ 0 ∷ 1 ∷ 0x6E ∷ [])  -- I into 5
    ∷ (0x43 ∷ 0 ∷ 0 ∷ 0 ∷ 0 ∷ 0 ∷ 0 ∷ 0 ∷ 0 ∷ 0x10 ∷ 0 ∷ 0 ∷ 0 ∷ 0 ∷ 0 ∷ 0 ∷ 0 ∷ 0x18 ∷ 0 ∷ 0 ∷ 0 ∷ 0 ∷ 0 ∷ 0 ∷ 0 ∷ 0 ∷ [])  -- C
    ∷ (0x63 ∷ 0 ∷ 0 ∷ 0 ∷ 7 ∷ 0 ∷ 0 ∷ 0 ∷ 0 ∷ 0 ∷ 0 ∷ 0 ∷ 0 ∷ 0x20 ∷ 0 ∷ 0 ∷ 0 ∷ 0 ∷ 0 ∷ 0 ∷ 0 ∷ 0x28 ∷ 0 ∷ 0 ∷ 0 ∷ 0 ∷ 0 ∷ 0 ∷ 0 ∷ 0 ∷ [])  -- c(7)
    ∷ (0x42 ∷ 0 ∷ 0 ∷ 0 ∷ 0 ∷ 0 ∷ 0 ∷ 0 ∷ 0x30 ∷ 0 ∷ 0 ∷ 0 ∷ 0 ∷ 0 ∷ 0 ∷ 0 ∷ 0 ∷ 0 ∷ 0 ∷ 0 ∷ 0x0A ∷ [])  -- B
    ∷ (0x49 ∷ 0 ∷ 0 ∷ 0 ∷ 5 ∷ 0x4E ∷ 0 ∷ 1 ∷ 0x6E ∷ [])  -- I into 5 with one column
    ∷ (0x49 ∷ 0 ∷ 0 ∷ 0 ∷ 5 ∷ 0x4E ∷ 0 ∷ 2 ∷ 0x6E ∷ 0x6E ∷ [])  -- and with two
    ∷ []))
    (answers_are (Accepted ∷ Accepted ∷ Accepted ∷ Accepted ∷ Refused 9 0 ∷ Accepted ∷ Accepted ∷ Accepted ∷ Change 1 0x64 1 ∷ Refused 10 0 ∷ []))
    ∷ []

pub marked : map (λ (e : Example). ask e.question) table ≡ map (λ (e : Example). e.answer) table
unfolding ask read tagged answers_by from tuple_steps relation_steps name_bytes text_bytes span_within example value is table tuple_position tuple_step relation_step read_message read_kind kind_among version_allows version_has value_field column_value column_end groups_end tuple_end optional xid_field be word_at number_field letter_field member text_field until_zero bytes_field
marked = refl
