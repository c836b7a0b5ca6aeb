-- A step's numbers, from what the functions of `columns` give. Assumes nothing.
use Prim.Native.Nat.{ℕ, zero, suc, ◌<◌}
use mathlib.Core.Path.{◌≡◌, refl, sym}
use mathlib.Core.List.{List, [], ◌∷◌}
use mathlib.Core.Bool.{Bool, true, false, cond}
use lib.Dec.{eqb}
use native.Mathlib.Omega.{arith}
use mir.Syntax.{w32}
use mir.Val.{of_z}
use mir.ValLaws.{of_z-to_z}
use Rattle.wire.specs.Cursors.{Cursor}
use Rattle.std.specs.Prelude.{Option, Some, None, Result, Ok, Err}
use Rattle.wire.specs.Numbers.{most32}
use Rattle.wire.specs.Fields.{number_field}
use Rattle.wire.proofs.Fields.{value_le}
use Rattle.columns.specs.declared.Position.{Position}
use Rattle.columns.specs.declared.Column.{Column}
use Rattle.columns.specs.declared.RelationColumn.{RelationColumn}
use Rattle.columns.specs.declared.TruncatedRelation.{TruncatedRelation}
use Rattle.columns.specs.declared.Step.{Step as Stepped}
use Rattle.wire.specs.declared.Refusal.{Refusal}
use Rattle.message.specs.Layout.{Field, Step, text, column, id, read_group}
use Rattle.message.specs.Kinds.{column_fields, up_to, any32}
use Rattle.columns.specs.Steps.{StepAnswer, over, gives, refused, step_at, stood, after, item, item_step, column_of, relation_column_of, relation_of}
use Rattle.capi.specs.Filled.{Filled, filled, padded}
use Rattle.capi.specs.Stepping.{position_in, numbers_of, moved_by, step_numbers, moved_on}

-- what a step shows: the numbers of what it passed, that it is over, or a refusal
pub data Shown : Type 0 where
  past : List ℕ → Shown
  nothing : Shown
  refusal : ℕ → ℕ → Shown

abbrev pub returned : Shown → Filled
returned (past ns) = filled 0 (padded 5 ns)
returned nothing = filled 255 (padded 5 [])
returned (refusal n o) = filled n (padded 5 (o ∷ []))

abbrev pub moved : Shown → Position → List ℕ → List ℕ
moved (past ns) q ps = q.offset ∷ q.left ∷ []
moved nothing q ps = ps
moved (refusal n o) q ps = ps

abbrev pub of_tuple : Result (Option Column) Refusal → Shown
of_tuple (Ok (Some c)) = past (c.letter ∷ c.value.start ∷ c.value.length ∷ [])
of_tuple (Ok None) = nothing
of_tuple (Err r) = refusal r.number r.offset

abbrev pub of_relation : Result (Option RelationColumn) Refusal → Shown
of_relation (Ok (Some c)) = past (c.key ∷ c.name.start ∷ c.name.length ∷ c.type_oid ∷ of_z w32 c.modifier ∷ [])
of_relation (Ok None) = nothing
of_relation (Err r) = refusal r.number r.offset

abbrev pub of_oid : Result (Option TruncatedRelation) Refusal → Shown
of_oid (Ok (Some r)) = past (r.oid ∷ [])
of_oid (Ok None) = nothing
of_oid (Err r) = refusal r.number r.offset

-- the step of section n is what is shown
abbrev pub Shows : ℕ → List ℕ → List ℕ → Shown → Position → Type 0
Shows n xs ps s q = (returned s ≡ step_numbers n xs ps) × (moved s q ps ≡ moved_on n xs ps)

-- what is shown of each answer, said once over the fields of what is stepped through
module _ (xs ps : List ℕ) (fs : List Field) (show : StepAnswer → Shown) where
  abbrev p : Position
  p = position_in ps

  abbrev g : Step
  g = read_group fs xs (Ok p.offset)

  step-shown :
      show over ≡ nothing → ((e : ℕ) → show (gives g.values e) ≡ past g.values) → ((n o : ℕ) → show (refused n o) ≡ refusal n o)
      → (let s = step_at fs xs p in (returned (show s) ≡ numbers_of s) × (moved (show s) (after s p) ps ≡ moved_by s ps))
  step-shown ended passed refusing = go (eqb p.left 0) g.next
    where
      go : (b : Bool) (c : Cursor) → (let s = cond b over (stood g.values c) in (returned (show s) ≡ numbers_of s) × (moved (show s) (after s p) ps ≡ moved_by s ps))
      go true c = rw ended (refl, refl)
      go false (Ok e) = rw (passed e) (refl, refl)
      go false (Err r) = rw (refusing r.number r.offset) (refl, refl)

pub tuple-shown : (xs ps : List ℕ) (r : Stepped Column) (k : Result (Option Column) Refusal) → r ≡ item_step (column ∷ []) column_of xs (position_in ps) → r.item ≡ k → Shows 0 xs ps (of_tuple k) r.next
unfolding step_numbers moved_on
tuple-shown xs ps r k d e = rw (sym e, d) (step-shown xs ps (column ∷ []) (λ s. of_tuple (item column_of s)) refl (λ e. refl) (λ n o. refl))

pub relation-shown : (xs ps : List ℕ) (r : Stepped RelationColumn) (k : Result (Option RelationColumn) Refusal) → r ≡ item_step column_fields relation_column_of xs (position_in ps) → r.item ≡ k → Shows 2 xs ps (of_relation k) r.next
unfolding step_numbers moved_on
relation-shown xs ps r k d e =
    rw (sym e, d)
    (step-shown xs ps column_fields (λ s. of_relation (item relation_column_of s)) refl
    (λ e. rw (of_z-to_z w32 m (record { fits = omega (arith, value_le 4 0 most32 4 xs at) })))
    (λ n o. refl))
  where
    at : Cursor
    at = (read_group (up_to 1 ∷ text ∷ any32 ∷ []) xs (Ok (position_in ps).offset)).next

    m : ℕ
    m = (number_field 4 0 most32 4 xs at).value

pub oid-shown : (xs ps : List ℕ) (r : Stepped TruncatedRelation) (k : Result (Option TruncatedRelation) Refusal) → r ≡ item_step (id ∷ []) relation_of xs (position_in ps) → r.item ≡ k → Shows 3 xs ps (of_oid k) r.next
unfolding step_numbers moved_on
oid-shown xs ps r k d e = rw (sym e, d) (step-shown xs ps (id ∷ []) (λ s. of_oid (item relation_of s)) refl (λ e. refl) (λ n o. refl))

-- an old tuple is stepped through as a new one
pub tuple_either : (n : ℕ) (xs ps : List ℕ) → n < 2 → (step_numbers 0 xs ps ≡ step_numbers n xs ps) × (moved_on 0 xs ps ≡ moved_on n xs ps)
unfolding step_numbers moved_on
tuple_either zero xs ps h = (refl, refl)
tuple_either (suc zero) xs ps h = (refl, refl)
tuple_either (suc (suc n)) xs ps h = absurd (omega (arith, h))
