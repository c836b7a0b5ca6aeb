-- To be believed (stepping). One step, from any position (document 01, "Looking at a tuple"): said once over the fields of what is stepped through.
use Rattle.std.specs.Prelude.{ℕ, ◌-◌, List, [], ◌∷◌, cond, eqb, get_or, Option, Some, None, Result, Ok, Err}
use Rattle.std.specs.Int.{w32}
use Rattle.std.proofs.Common.{to_z}
use Rattle.wire.specs.declared.Refusal.{Refusal}
use Rattle.wire.specs.Cursors.{Cursor, refuse}
use Rattle.message.specs.Layout.{Field, column, id, read_group}
use Rattle.message.specs.Kinds.{column_fields}
use Rattle.columns.specs.declared.Position.{Position}
use Rattle.columns.specs.declared.Step.{Step}
use Rattle.columns.specs.declared.Column.{Column}
use Rattle.columns.specs.declared.RelationColumn.{RelationColumn}
use Rattle.columns.specs.declared.TruncatedRelation.{TruncatedRelation}

-- what stands at a position: the numbers of one group of fields and where it ends, that stepping is over, or reading's refusal
pub data StepAnswer : Type 0 where
  over : StepAnswer
  gives : List ℕ → ℕ → StepAnswer
  refused : ℕ → ℕ → StepAnswer

abbrev pub stood : List ℕ → Cursor → StepAnswer
stood v (Ok e) = gives v e
stood v (Err r) = refused r.number r.offset

-- with none left it is over, whatever the offset; else the group at the offset
abbrev pub step_at : List Field → List ℕ → Position → StepAnswer
step_at fs xs p = cond (eqb p.left 0) over (let g = read_group fs xs (Ok p.offset) in stood g.values g.next)

-- past a group, with one less left; after any other answer where it was
abbrev pub after : StepAnswer → Position → Position
after over p = p
after (gives v e) p = record { offset = e; left = p.left - 1 }
after (refused n o) p = p

-- what the numbers of the group make, none where stepping is over, or the refusal
abbrev pub item : {A : Type 0} → (List ℕ → A) → StepAnswer → Result (Option A) Refusal
item of over = Ok None
item of (gives v e) = Ok (Some (of v))
item of (refused n o) = refuse n o

abbrev pub item_step : {A : Type 0} → List Field → (List ℕ → A) → List ℕ → Position → Step A
item_step fs of xs p = let s = step_at fs xs p in record { item = item of s; next = after s p }

-- a tuple's column: its letter, and the start and length of its value
abbrev pub column_of : List ℕ → Column
column_of v = record { letter = get_or v 0 0; value = record { start = get_or v 1 0; length = get_or v 2 0 } }

unfoldable pub tuple_step : List ℕ → Position → Step Column
tuple_step xs p = item_step (column ∷ []) column_of xs p

-- a Relation's column: its flags, name, type OID and type modifier
abbrev pub relation_column_of : List ℕ → RelationColumn
relation_column_of v = record { key = get_or v 0 0; name = record { start = get_or v 1 0; length = get_or v 2 0 }; type_oid = get_or v 3 0; modifier = to_z w32 (get_or v 4 0) }

unfoldable pub relation_step : List ℕ → Position → Step RelationColumn
relation_step xs p = item_step column_fields relation_column_of xs p

-- a Truncate's OID
abbrev pub relation_of : List ℕ → TruncatedRelation
relation_of v = record { oid = get_or v 0 0 }

unfoldable pub oid_step : List ℕ → Position → Step TruncatedRelation
oid_step xs p = item_step (id ∷ []) relation_of xs p
