-- STEPPING VISITS ALL: from where a message's tuple, columns or OIDs start, steps give exactly what the layout gives, in order, end where
-- the layout ends, and then say that it is over. Said once over what is stepped through. Assumes nothing.
use Prim.Native.Nat.{ℕ, zero, suc, ◌+◌, ◌-◌}
use mathlib.Core.List.{List, [], ◌∷◌}
use mathlib.Core.Bool.{Bool}
use mathlib.Core.Path.{◌≡◌, refl, ap}
use native.Mathlib.Nat.{zero-add, suc-add}
use native.Mathlib.Omega.{arith}
use borrow.Author.Tests.{ne_eqb}
use lib.ListN.{length}
use Rattle.std.specs.Prelude.{Ok, Err, Option, Some, None}
use Rattle.wire.specs.declared.Refusal.{Refusal}
use Rattle.message.specs.declared.Version.{Version}
use Rattle.message.specs.declared.Message.{Message}
use Rattle.message.specs.Messages.{Read, read_message}
use Rattle.message.specs.Layout.{Field, column, column_count, read_group, groups_end, tuple_end}
use Rattle.message.proofs.Accepted.{Accepted, accepted, reached}
use Rattle.message.proofs.Local.{groups_local}
use Rattle.columns.specs.declared.Position.{Position}
use Rattle.columns.specs.declared.Which.TheVariants.{Old, New}
use Rattle.columns.specs.Starts.{sections_of, tuple_position}
use Rattle.columns.specs.Visits.{Section, tuple, columns, oids, fields_of, start_of, groups_of, Visit, visit, visited}
use Rattle.columns.proofs.Whole.{TupleAt, GroupsAt, Sound, groups-at, kind_sound}

abbrev pub position : ℕ → ℕ → Position
position offset left = record { offset = offset; left = left }

module _ (fs : List Field) (xs : List ℕ) where
  -- with none left, every step says that it is over
  pub stays_over : (e k : ℕ) → visited fs xs k (position e 0) ≡ visit [] (position e 0)
  stays_over e zero = refl
  stays_over e (suc k) = stays_over e k

  pub all_visited :
      (n a e more : ℕ) → groups_end fs xs n (Ok a) ≡ Ok e
      → visited fs xs (n + more) (position a n) ≡ visit (groups_of fs xs n (Ok a)) (position e 0)
  unfolding groups_end
  all_visited zero a e more q = let p : a ≡ e = cc in rw (zero-add more, p) (stays_over e more)
  all_visited (suc n) a e more q =
      let g = read_group fs xs (Ok a) in
      let r = reached (groups_end fs xs n) ((groups_local fs n).stays xs) g.next q in
      let less : suc n - 1 ≡ n = omega arith in
      rw (suc-add n more, ne_eqb (suc n) 0 (λ z. omega arith), r.1, less)
      (ap (λ (v : Visit). visit (g.values ∷ v.given) v.last) (all_visited n r.0 e more (rw r.1 at q)))

-- a tuple that lies there whole, from its first column on
tuple_at_lem :
    (xs : List ℕ) (p : Position) (f : Option ℕ) → ((start : ℕ) → f ≡ Some start → TupleAt xs start) → tuple_position xs f ≡ Ok p
    → GroupsAt xs (column ∷ []) p
unfolding tuple_position tuple_end
tuple_at_lem xs p None w q = let z : ◌≡◌ {A = ℕ} 0 1 = cc in absurd (omega arith)
tuple_at_lem xs p (Some start) w q =
    let n = column_count xs (Ok start) in
    let t = w start refl in
    groups-at xs (column ∷ []) n.value n.next t.0 t.1 p q

in_sections : (s : Section) (xs : List ℕ) (m : Message) (p : Position) → Sound xs (sections_of m) → start_of s xs (Ok m) ≡ Ok p → GroupsAt xs (fields_of s) p
in_sections (tuple Old) xs m p k q = tuple_at_lem xs p (sections_of m).old k.old-whole q
in_sections (tuple New) xs m p k q = tuple_at_lem xs p (sections_of m).new k.new-whole q
in_sections columns xs m p k q = k.columns-whole p q
in_sections oids xs m p k q = k.oids-whole p q

no_start : (s : Section) (xs : List ℕ) (r : Refusal) (p : Position) → start_of s xs (Err r) ≡ Ok p → GroupsAt xs (fields_of s) p
no_start (tuple w) xs r p q = let z : ◌≡◌ {A = ℕ} 0 1 = cc in absurd (omega arith)
no_start columns xs r p q = let z : ◌≡◌ {A = ℕ} 0 1 = cc in absurd (omega arith)
no_start oids xs r p q = let z : ◌≡◌ {A = ℕ} 0 1 = cc in absurd (omega arith)

module _ (s : Section) (v : Version) (b : Bool) (xs : List ℕ) (p : Position) where
  -- what starting finds lies there whole
  pub section_whole : start_of s xs (read_message v b xs) ≡ Ok p → GroupsAt xs (fields_of s) p
  section_whole = go (read_message v b xs) refl
    where
      read_whole : (m : Message) → Accepted v b xs m → start_of s xs (Ok m) ≡ Ok p → GroupsAt xs (fields_of s) p
      read_whole m a q =
          let k : Sound xs (sections_of m) = rw a.message (kind_sound xs b a.kind (length xs) a.ends) in
          in_sections s xs m p k q

      go : (r : Read) → read_message v b xs ≡ r → start_of s xs r ≡ Ok p → GroupsAt xs (fields_of s) p
      go (Err r) e q = no_start s xs r p q
      go (Ok m) e q = read_whole m (accepted v b xs m e) q

  -- THE LAW: as many steps as are left, or more, visit what the layout gives and end where it ends
  pub steps-visit_all :
      start_of s xs (read_message v b xs) ≡ Ok p
      → (e : ℕ)
      × (groups_end (fields_of s) xs p.left (Ok p.offset) ≡ Ok e)
      × ((more : ℕ) → visited (fields_of s) xs (p.left + more) p ≡ visit (groups_of (fields_of s) xs p.left (Ok p.offset)) (position e 0))
  steps-visit_all q =
      let w = section_whole q in
      (w.0, w.1, λ more. all_visited (fields_of s) xs p.left p.offset w.0 more w.1)
