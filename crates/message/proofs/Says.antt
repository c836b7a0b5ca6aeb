-- What a message says, over its layout. Assumes nothing.
use Prim.Native.Nat.{ℕ}
use mathlib.Core.List.{List, [], ◌∷◌, ◌++◌}
use mathlib.Core.Bool.{cond}
use mathlib.Core.Path.{◌≡◌, refl}
use lib.ListN.{get_or, take, drop}
use lib.Dec.{eqb}
use Rattle.std.specs.Prelude.{Ok}
use Rattle.message.specs.declared.OldTuple.{OldTuple}
use Rattle.message.specs.declared.OldTuple.TheVariants.{Nothing, Key, Full}
use Rattle.message.specs.declared.Message.{Message}
use Rattle.message.specs.declared.Message.TheVariants as a
use Rattle.message.specs.Layout.{Field, Part, number, constant, letter, text, value, column, one, block_xid, groups, tuple, optional_tuple, groups_end, tuple_end}
use Rattle.message.specs.Kinds.{layout}
use Rattle.message.specs.Encode.{cut, from_to, kind_of_message, parts_of}
use Rattle.message.specs.Write.{arity, arities}
use Rattle.message.specs.Same.{Content, num, bytes, contents}

abbrev pub field_says : Field → List ℕ → List ℕ → List Content
field_says (number w low high) xs v = num (get_or v 0 0) ∷ []
field_says (constant k) xs v = []
field_says (letter set) xs v = num (get_or v 0 0) ∷ []
field_says text xs v = bytes (cut xs (get_or v 0 0) (get_or v 1 0)) ∷ []
field_says value xs v = bytes (cut xs (get_or v 0 0) (get_or v 1 0)) ∷ []
field_says column xs v = num (get_or v 0 0) ∷ bytes (cut xs (get_or v 1 0) (get_or v 2 0)) ∷ []

abbrev pub group_says : List Field → List ℕ → List ℕ → List Content
group_says [] xs v = []
group_says (f ∷ fs) xs v = field_says f xs (take (arity f) v) ++ group_says fs xs (drop (arity f) v)

abbrev pub part_says : Part → List ℕ → List ℕ → List Content
part_says (one f) xs v = field_says f xs v
part_says block_xid xs v = num (get_or v 0 0) ∷ []
part_says (groups w low high between fs) xs v =
    let start = get_or (drop 1 v) (arities between) 0 in
    num (get_or v 0 0) ∷ group_says between xs (drop 1 v) ++ (bytes (from_to xs start (groups_end fs xs (get_or v 0 0) (Ok start))) ∷ [])
part_says tuple xs v = bytes (from_to xs (get_or v 0 0) (tuple_end xs (Ok (get_or v 0 0)))) ∷ []
part_says (optional_tuple set) xs v = num (get_or v 0 0) ∷ cond (eqb (get_or v 0 0) 0) [] (bytes (from_to xs (get_or v 1 0) (tuple_end xs (Ok (get_or v 1 0)))) ∷ [])

abbrev pub layout_says : List Part → List ℕ → List (List ℕ) → List Content
layout_says [] xs vs = []
layout_says (p ∷ ps) xs vs = part_says p xs (get_or vs 0 []) ++ layout_says ps xs (drop 1 vs)

-- it is what the message says
pub says : (xs : List ℕ) (m : Message) → contents xs m ≡ layout_says (layout (kind_of_message m)) xs (parts_of m)
says xs (a.Begin m) = refl
says xs (a.Commit m) = refl
says xs (a.Origin m) = refl
says xs (a.Relation m) = refl
says xs (a.«Type» m) = refl
says xs (a.Insert m) = refl
says xs (a.Update m) = go m.old
  where
    go : (o : OldTuple) → (let u = a.Update (record { xid = m.xid; relation = m.relation; old = o; tuple = m.tuple }) in contents xs u ≡ layout_says (layout (kind_of_message u)) xs (parts_of u))
    go Nothing = refl
    go (Key start) = refl
    go (Full start) = refl
says xs (a.Delete m) = refl
says xs (a.Truncate m) = refl
says xs (a.Message m) = refl
says xs (a.StreamStart xid first) = refl
says xs a.StreamStop = refl
says xs (a.StreamCommit m) = refl
says xs (a.StreamAbort xid sub) = refl
