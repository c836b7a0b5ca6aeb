-- A small feed with a keeper of 60 bytes, by computation: two inserts into a block are kept, a third does not fit (14), an abort of sub-xid 8 removes
-- the second, a commit with an output of 20 bytes is refused (13), and one with 30 releases the first. Assumes nothing.
use Prim.Native.Nat.{ℕ}
use mathlib.Core.List.{List, [], ◌∷◌, ◌++◌}
use mathlib.Core.Path.{◌≡◌, refl}
use lib.ListN.{replicate}
use Rattle.wire.specs.Numbers.{be, word_at}
use Rattle.wire.specs.Fields.{number_field, letter_field, member, text_field, until_zero, bytes_field, value_field}
use Rattle.message.specs.Layout.{column_end, groups_end, tuple_end, optional, xid_field}
use Rattle.message.specs.Kinds.{kind_among}
use Rattle.message.specs.Versions.{version_allows, version_has}
use Rattle.message.specs.Messages.{read_kind, read_message}
use Rattle.message.specs.Encode.{digits}
use Rattle.session.specs.Answers as said
use Rattle.session.specs.History.{given}
use Rattle.keeper.specs.Rules.{Call, call, record_of, outcomes}
use Rattle.keeper.proofs.Runs.{gets}

-- an I under an xid, and its record in the block of xid 7
abbrev pub insert : ℕ → List ℕ
insert x = 73 ∷ 0 ∷ 0 ∷ 0 ∷ x ∷ 0 ∷ 0 ∷ 0 ∷ 5 ∷ 78 ∷ 0 ∷ 1 ∷ 110 ∷ []

abbrev packed : ℕ → List ℕ
packed x = 195 ∷ 77 ∷ 0 ∷ 0 ∷ 0 ∷ 7 ∷ 0 ∷ 0 ∷ 0 ∷ x ∷ 0 ∷ 0 ∷ 0 ∷ 13 ∷ insert x

abbrev pub commit : List ℕ
commit = 99 ∷ 0 ∷ 0 ∷ 0 ∷ 7 ∷ (replicate 8 0 ++ (32 ∷ (replicate 7 0 ++ (40 ∷ replicate 8 0))))

-- the buffer with nothing, one record and two in it
abbrev empty : List ℕ
empty = replicate 60 238

abbrev one : List ℕ
one = packed 7 ++ replicate 33 238

abbrev two : List ℕ
two = packed 7 ++ (packed 8 ++ replicate 6 238)

abbrev feed : List Call
feed =
    call (given (83 ∷ 0 ∷ 0 ∷ 0 ∷ 7 ∷ 1 ∷ []) 0) []
    ∷ call (given (82 ∷ 0 ∷ 0 ∷ 0 ∷ 7 ∷ 0 ∷ 0 ∷ 0 ∷ 5 ∷ 0 ∷ 116 ∷ 0 ∷ 100 ∷ 0 ∷ 1 ∷ 1 ∷ 105 ∷ 100 ∷ 0 ∷ 0 ∷ 0 ∷ 0 ∷ 23 ∷ 255 ∷ 255 ∷ 255 ∷ 255 ∷ []) 1) []
    ∷ call (given (insert 7) 2) []
    ∷ call (given (insert 8) 3) []
    ∷ call (given (insert 7) 4) []
    ∷ call (given (69 ∷ []) 5) []
    ∷ call (given (65 ∷ 0 ∷ 0 ∷ 0 ∷ 7 ∷ 0 ∷ 0 ∷ 0 ∷ 8 ∷ []) 6) []
    ∷ call (given commit 7) (replicate 20 170)
    ∷ call (given commit 8) (replicate 30 170)
    ∷ []

pub example : outcomes (record { number = 2 }) empty [] feed ≡
    gets said.Accepted 0 [] empty 0
    ∷ gets said.Accepted 0 [] empty 0
    ∷ gets (said.Change 1 0x64 1) 0 [] one 27
    ∷ gets (said.Change 1 0x64 1) 0 [] two 54
    ∷ gets (said.Refused 14 0) 0 [] two 54
    ∷ gets said.Accepted 0 [] two 54
    ∷ gets said.Accepted 0 [] two 27
    ∷ gets (said.Refused 13 0) 0 (replicate 20 170) two 27
    ∷ gets said.Accepted 27 (packed 7 ++ replicate 3 170) two 0
    ∷ []
unfolding outcomes record_of digits read_message read_kind kind_among version_allows version_has value_field column_end groups_end tuple_end optional xid_field be word_at number_field letter_field member text_field until_zero bytes_field
example = refl
