-- To be believed (stepping). Stepping through all of a tuple, a Relation's columns or a Truncate's OIDs: what is stepped through, and what many steps give.
use Rattle.std.specs.Prelude.{ℕ, zero, suc, List, [], ◌∷◌}
use Rattle.wire.specs.Cursors.{Cursor}
use Rattle.message.specs.Messages.{Read}
use Rattle.message.specs.Layout.{Field, column, id, read_group}
use Rattle.message.specs.Kinds.{column_fields}
use Rattle.columns.specs.declared.Position.{Position}
use Rattle.columns.specs.declared.Which.{Which}
use Rattle.columns.specs.Starts.{Started, tuple_start, relation_start, oid_start}
use Rattle.columns.specs.Steps.{StepAnswer, over, gives, refused, step_at, after}

-- what is stepped through
pub data Section : Type 0 where
  tuple : Which → Section
  columns : Section
  oids : Section

-- the fields of one step
abbrev pub fields_of : Section → List Field
fields_of (tuple w) = column ∷ []
fields_of columns = column_fields
fields_of oids = id ∷ []

-- where stepping starts
abbrev pub start_of : Section → List ℕ → Read → Started
start_of (tuple w) xs r = tuple_start w xs r
start_of columns xs r = relation_start r
start_of oids xs r = oid_start r

-- what the layout's definition gives: the numbers of each of n groups, in order
abbrev pub groups_of : List Field → List ℕ → ℕ → Cursor → List (List ℕ)
groups_of fs xs zero c = []
groups_of fs xs (suc n) c = let g = read_group fs xs c in g.values ∷ groups_of fs xs n g.next

pub record Visit : Type 0 where
  pub given : List (List ℕ)
  pub last : Position

abbrev pub visit : List (List ℕ) → Position → Visit
visit vs p = record { given = vs; last = p }

abbrev pub noting : StepAnswer → Visit → Visit
noting over v = v
noting (gives g e) v = visit (g ∷ v.given) v.last
noting (refused n o) v = v

-- what k steps from a position give, and where stepping stands then
abbrev pub visited : List Field → List ℕ → ℕ → Position → Visit
visited fs xs zero p = visit [] p
visited fs xs (suc k) p = let s = step_at fs xs p in noting s (visited fs xs k (after s p))
