-- By computation: the premises of `Turns` hold of two blocks that announce and change the same relation; and without its premises it is false. Assumes nothing.
use Prim.Native.Nat.{ℕ, ◌+◌}
use native.Mathlib.Omega.{arith}
use mathlib.Core.List.{List, [], ◌∷◌, ◌++◌, map}
use mathlib.Core.Bool.{Bool, true}
use mathlib.Core.Path.{◌≡◌, refl, sym, ◌∙◌, ap}
use lib.ListN.{replicate, drop}
use Rattle.wire.specs.Numbers.{be, word_at}
use Rattle.wire.specs.Fields.{number_field, letter_field, member, text_field, until_zero, bytes_field, value_field}
use Rattle.message.specs.Layout.{column_end, groups_end, tuple_end, optional, xid_field}
use Rattle.message.specs.Kinds.{kind_among}
use Rattle.message.specs.Versions.{version_allows, version_has}
use Rattle.message.specs.Messages.{read_kind, read_message}
use Rattle.message.specs.Encode.{digits}
use Rattle.std.specs.Prelude.{Some, None, Ok, Err}
use Rattle.session.specs.Answers.{Answer}
use Rattle.session.specs.Events.{Relation, Change, StreamStop, Tuple}
use Rattle.session.specs.History.{given}
use Rattle.session.specs.Rules as session
use Rattle.session.specs.Rules.{heard, Start, version_of}
use Rattle.session.specs.Turns.{stops, goes, BlockOf, starts, gets_after, all_accepted}
use Rattle.keeper.specs.Rules.{Call, call, Outcome, record_of, outcomes}
use Rattle.keeper.specs.Turns.{given_of, Got, gotten, answer_of, gets}
use Rattle.keeper.proofs.ListTheorem.{keeper_outcomes}
use Rattle.keeper.proofs.TurnsTheorem.{turns}
use Rattle.keeper.proofs.Example.{insert, commit}

-- an R of relation 5 with one column, under an xid and with an identity
abbrev announce : ℕ → ℕ → List ℕ
announce x identity = 82 ∷ 0 ∷ 0 ∷ 0 ∷ x ∷ 0 ∷ 0 ∷ 0 ∷ 5 ∷ 0 ∷ 116 ∷ 0 ∷ identity ∷ 0 ∷ 1 ∷ 1 ∷ 105 ∷ 100 ∷ 0 ∷ 0 ∷ 0 ∷ 0 ∷ 23 ∷ 255 ∷ 255 ∷ 255 ∷ 255 ∷ []

abbrev start : ℕ → ℕ → List ℕ
start x first = 83 ∷ 0 ∷ 0 ∷ 0 ∷ x ∷ first ∷ []

-- S, R, I and E of a transaction, with a tag
abbrev block : ℕ → ℕ → ℕ → ℕ → List Call
block x first identity g =
    call (given (start x first) g) []
    ∷ call (given (announce x identity) g) []
    ∷ call (given (insert x) g) []
    ∷ call (given (69 ∷ []) g) []
    ∷ []

abbrev two : Start
two = session.named 2

-- what messages get, with a buffer, where others were given before them
abbrev got : List ℕ → List Call → List Call → List Got
got buffer before l = gets_after (gets two buffer) before l

abbrev are_accepted : List Got → Bool
are_accepted l = all_accepted (map answer_of l)

-- THE PREMISES HOLD

relation_not : (o i c : ℕ) → heard (Relation o i c) ≡ heard StreamStop → ⊥
relation_not o i c e = let z : ◌≡◌ {A = ℕ} 0 1 = cc in omega arith

change_not : (x o : ℕ) (ts : List Tuple) → heard (Change x o ts) ≡ heard StreamStop → ⊥
change_not x o ts e = let z : ◌≡◌ {A = ℕ} 0 1 = cc in omega arith

seven : BlockOf (version_of two) 7 (map given_of (block 7 1 100 1))
unfolding read_message read_kind kind_among version_allows version_has value_field column_end groups_end tuple_end optional xid_field be word_at number_field letter_field member text_field until_zero bytes_field
seven = starts {first = 1} refl (goes (relation_not _ _ _) (goes (change_not _ _ _) (stops refl)))

nine : BlockOf (version_of two) 9 (map given_of (block 9 1 102 2))
unfolding read_message read_kind kind_among version_allows version_has value_field column_end groups_end tuple_end optional xid_field be word_at number_field letter_field member text_field until_zero bytes_field
nine = starts {first = 1} refl (goes (relation_not _ _ _) (goes (change_not _ _ _) (stops refl)))

accepted : are_accepted (got (replicate 60 0) [] (block 7 1 100 1 ++ block 9 1 102 2)) ≡ true
unfolding gets outcomes record_of digits read_message read_kind kind_among version_allows version_has value_field column_end groups_end tuple_end optional xid_field be word_at number_field letter_field member text_field until_zero bytes_field
accepted = ap (λ (os : List Outcome). are_accepted (map gotten os)) (keeper_outcomes two (replicate 60 0) (block 7 1 100 1 ++ block 9 1 102 2))

-- so every list after them gets the same
pub example : (after : List Call)
    → got (replicate 60 0) (block 7 1 100 1 ++ block 9 1 102 2) after ≡ got (replicate 60 255) (block 9 1 102 2 ++ block 7 1 100 1) after
example after = (turns two (replicate 60 0) (replicate 60 255) refl 7 9 (λ e. omega arith) [] (block 7 1 100 1) (block 9 1 102 2) after seven nine accepted).later

-- NOT ALL ACCEPTED: with room for one record the I that comes second gets 14, and the c of 7 releases its record or nothing

abbrev released : List Got → ℕ
released [] = 0
released (g ∷ l) = g.released

abbrev ending : List Call
ending = call (given commit 3) (replicate 30 0) ∷ []

releases : released (got (replicate 30 0) (block 7 1 100 1 ++ block 9 1 102 2) ending) ≡ 27
unfolding gets outcomes record_of digits read_message read_kind kind_among version_allows version_has value_field column_end groups_end tuple_end optional xid_field be word_at number_field letter_field member text_field until_zero bytes_field
releases = ap (λ (os : List Outcome). released (drop 8 (map gotten os))) (keeper_outcomes two (replicate 30 0) ((block 7 1 100 1 ++ block 9 1 102 2) ++ ending))

releases_not : released (got (replicate 30 0) (block 9 1 102 2 ++ block 7 1 100 1) ending) ≡ 0
unfolding gets outcomes record_of digits read_message read_kind kind_among version_allows version_has value_field column_end groups_end tuple_end optional xid_field be word_at number_field letter_field member text_field until_zero bytes_field
releases_not = ap (λ (os : List Outcome). released (drop 8 (map gotten os))) (keeper_outcomes two (replicate 30 0) ((block 9 1 102 2 ++ block 7 1 100 1) ++ ending))

pub without-room : got (replicate 30 0) (block 7 1 100 1 ++ block 9 1 102 2) ending ≡ got (replicate 30 0) (block 9 1 102 2 ++ block 7 1 100 1) ending → ⊥
without-room e = let z : ◌≡◌ {A = ℕ} 27 0 = sym releases ∙ ap released e ∙ releases_not in omega arith

-- ONE XID: two blocks of 7, all accepted in both orders, that announce the same relation; the I behind them sees the announcement that came second

abbrev tagged : Answer → ℕ
tagged (Ok None) = 0
tagged (Ok (Some r)) = r.tag
tagged (Err r) = 0

abbrev tags : List Got → ℕ
tags [] = 0
tags (g ∷ l) = tagged g.answer + tags l

abbrev opened : List Call
opened = call (given (start 7 1) 0) [] ∷ call (given (69 ∷ []) 0) [] ∷ []

abbrev further : List Call
further = call (given (start 7 0) 3) [] ∷ call (given (insert 7) 3) [] ∷ []

-- the blocks are accepted in both orders
pub one_accepted : are_accepted (got (replicate 90 0) opened (block 7 0 100 1 ++ block 7 0 102 2)) ≡ true
unfolding gets outcomes record_of digits read_message read_kind kind_among version_allows version_has value_field column_end groups_end tuple_end optional xid_field be word_at number_field letter_field member text_field until_zero bytes_field
one_accepted = ap (λ (os : List Outcome). are_accepted (drop 2 (map gotten os))) (keeper_outcomes two (replicate 90 0) (opened ++ (block 7 0 100 1 ++ block 7 0 102 2)))

pub other_accepted : are_accepted (got (replicate 90 0) opened (block 7 0 102 2 ++ block 7 0 100 1)) ≡ true
unfolding gets outcomes record_of digits read_message read_kind kind_among version_allows version_has value_field column_end groups_end tuple_end optional xid_field be word_at number_field letter_field member text_field until_zero bytes_field
other_accepted = ap (λ (os : List Outcome). are_accepted (drop 2 (map gotten os))) (keeper_outcomes two (replicate 90 0) (opened ++ (block 7 0 102 2 ++ block 7 0 100 1)))

sees_two : tags (got (replicate 90 0) (opened ++ (block 7 0 100 1 ++ block 7 0 102 2)) further) ≡ 2
unfolding gets outcomes record_of digits read_message read_kind kind_among version_allows version_has value_field column_end groups_end tuple_end optional xid_field be word_at number_field letter_field member text_field until_zero bytes_field
sees_two = ap (λ (os : List Outcome). tags (drop 10 (map gotten os))) (keeper_outcomes two (replicate 90 0) ((opened ++ (block 7 0 100 1 ++ block 7 0 102 2)) ++ further))

sees_one : tags (got (replicate 90 0) (opened ++ (block 7 0 102 2 ++ block 7 0 100 1)) further) ≡ 1
unfolding gets outcomes record_of digits read_message read_kind kind_among version_allows version_has value_field column_end groups_end tuple_end optional xid_field be word_at number_field letter_field member text_field until_zero bytes_field
sees_one = ap (λ (os : List Outcome). tags (drop 10 (map gotten os))) (keeper_outcomes two (replicate 90 0) ((opened ++ (block 7 0 102 2 ++ block 7 0 100 1)) ++ further))

pub one-xid : got (replicate 90 0) (opened ++ (block 7 0 100 1 ++ block 7 0 102 2)) further ≡ got (replicate 90 0) (opened ++ (block 7 0 102 2 ++ block 7 0 100 1)) further → ⊥
one-xid e = let z : ◌≡◌ {A = ℕ} 2 1 = sym sees_two ∙ ap tags e ∙ sees_one in omega arith
