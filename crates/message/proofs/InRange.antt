-- DEMAND 1: the refusals of reading are in range. Assumes nothing.
use Prim.Native.Nat.{ℕ, zero, suc, ◌+◌, ◌≤◌}
use mathlib.Core.List.{List, [], ◌∷◌}
use mathlib.Core.Bool.{Bool, true, false, not, cond}
use Rattle.std.specs.Prelude.{Option, None, Some, Ok, Err}
use mathlib.Core.Path.{◌≡◌, refl}
use native.Mathlib.Omega.{arith}
use borrow.Author.Tests.{leb-true, ltb-true, eqb-false}
use lib.ListN.{length, get_or}
use lib.Dec.{eqb, leb, ltb}
use Rattle.wire.specs.declared.Span.{Span}
use Rattle.wire.specs.Cursors.{Cursor, refuse, Taken}
use Rattle.wire.specs.Numbers.{be, word_at}
use Rattle.wire.specs.Fields.{number_field, letter_field, text_field, bytes_field, value_field, judged, in_range, member, no_number, position_of}
use Rattle.wire.proofs.Cases.{text_cases, bytes_cases}
use Rattle.message.specs.declared.Version.{Version}
use Rattle.message.specs.declared.Message.{Message}
use Rattle.message.specs.Messages.{Read, largest, finished, settled, message_of, read_kind, read_named, read_message}
use Rattle.message.specs.Layout.{Field, Part, number, constant, letter, text, value, column, one, block_xid, groups, tuple, optional_tuple, id, column_letters, has_value, most_columns, column_count, column_end, read_field, read_group, times, groups_end, tuple_end, Optional, optional, xid_field, read_part, read_fields}
use Rattle.message.specs.Kinds.{Kind, layout, kind_of}
use Rattle.message.specs.Versions.{version_allows, version_has}

-- a refusal numbered 1 to `last`, at an offset that is at most `end`
pub record InRange (last end number offset : ℕ) : Type 0 where
  pub from_one : 1 ≤ number
  pub to_last : number ≤ last
  pub inside : offset ≤ end

-- READING any bytes, under any version: 1 to 6, at most at the end of the bytes
abbrev pub ReadInRange : Type 0
ReadInRange = (v : Version) (b : Bool) (xs : List ℕ) (n o : ℕ) → read_message v b xs ≡ refuse n o → InRange 6 (length xs) n o

-- a refusal's number
abbrev pub Named : ℕ → Type 0
Named n = InRange 6 0 n 0

pub within : (n : ℕ) → 1 ≤ n → n ≤ 6 → Named n
within n h i = record { from_one = h; to_last = i; inside = omega arith }

pub two : Named 2
two = within 2 (omega arith) (omega arith)

pub four : Named 4
four = within 4 (omega arith) (omega arith)

pub six : Named 6
six = within 6 (omega arith) (omega arith)

-- THE FIELDS

-- a cursor that stands, or has refused, inside
abbrev pub Fine : ℕ → Cursor → Type 0
Fine end (Ok a) = a ≤ end
Fine end (Err r) = InRange 6 end r.number r.offset

pub at : {n o end most offset : ℕ} → InRange 6 most n offset → o ≤ end → InRange 6 end n o
at i h = record { from_one = i.from_one; to_last = i.to_last; inside = h }

module _ (xs : List ℕ) (end : ℕ) (inside : length xs ≤ end) where
  pub number_fine : (w low high n : ℕ) → Named n → (c : Cursor) → Fine end c → Fine end (number_field w low high n xs c).next
  unfolding number_field word_at
  number_fine w low high n i (Err r) f = f
  number_fine w low high n i (Ok a) f = go (leb (a + w) (length xs)) refl
    where
      test : a + w ≤ length xs → (t : Bool) → Fine end (cond {A = Taken ℕ} t (record { value = be w xs a; next = Ok (a + w) }) (no_number (refuse n a))).next
      test h true = omega arith
      test h false = at i f

      go : (t : Bool) → leb (a + w) (length xs) ≡ t → Fine end (judged w low high n a (cond t (Some (be w xs a)) None)).next
      go true e = test (leb-true (a + w) (length xs) e) (in_range low high (be w xs a))
      go false e = at two f

  pub letter_fine : (set : List ℕ) (c : Cursor) → Fine end c → Fine end (letter_field set xs c).next
  unfolding letter_field
  letter_fine set (Err r) f = f
  letter_fine set (Ok a) f = go (ltb a (length xs)) refl (member set (get_or xs a 0))
    where
      go : (t : Bool) → ltb a (length xs) ≡ t → (m : Bool)
          → Fine end (cond {A = Taken ℕ} t (cond m (record { value = get_or xs a 0; next = Ok (a + 1) }) (no_number (refuse 4 a))) (no_number (refuse 2 a))).next
      go true e true = omega (arith, ltb-true a (length xs) e)
      go true e false = at four f
      go false e m = at two f

  pub text_fine : (c : Cursor) → Fine end c → Fine end (text_field xs c).next
  unfolding text_field
  text_fine (Err r) f = f
  text_fine (Ok a) f = text_cases xs a (λ (s : Taken Span). Fine end s.next) (at two f) (λ h. omega arith)

  pub bytes_fine : (n : ℕ) (c : Cursor) → Fine end c → Fine end (bytes_field n xs c).next
  unfolding bytes_field
  bytes_fine n (Err r) f = f
  bytes_fine n (Ok a) f = bytes_cases xs a (λ (s : Taken Span). Fine end s.next) (at two f) n (λ h. omega arith)

  value_fine : (c : Cursor) → Fine end c → Fine end (value_field xs c).next
  unfolding value_field
  value_fine c f =
      let l = number_field 4 0 0x7FFFFFFF 4 xs c in
      bytes_fine l.value l.next (number_fine 4 0 0x7FFFFFFF 4 four c f)

  column_fine : (c : Cursor) → Fine end c → Fine end (column_end xs c)
  unfolding column_end
  column_fine c f = let k = letter_field column_letters xs c in go (has_value k.value) k.next (letter_fine column_letters c f)
    where
      go : (t : Bool) (d : Cursor) → Fine end d → Fine end (cond t (value_field xs d).next d)
      go true d g = value_fine d g
      go false d g = g

  field_fine : (f : Field) (c : Cursor) → Fine end c → Fine end (read_field f xs c).next
  field_fine (number w low high) c f = number_fine w low high 4 four c f
  field_fine (constant k) c f = letter_fine (k ∷ []) c f
  field_fine (letter set) c f = letter_fine set c f
  field_fine text c f = text_fine c f
  field_fine value c f = value_fine c f
  field_fine column c f = column_fine c f

  group_fine : (fs : List Field) (c : Cursor) → Fine end c → Fine end (read_group fs xs c).next
  group_fine [] c f = f
  group_fine (g ∷ fs) c f = group_fine fs (read_field g xs c).next (field_fine g c f)

  times_fine : (g : Cursor → Cursor) → ((c : Cursor) → Fine end c → Fine end (g c)) → (n : ℕ) (c : Cursor) → Fine end c → Fine end (times n g c)
  times_fine g keeps zero c f = f
  times_fine g keeps (suc n) c f = times_fine g keeps n (g c) (keeps c f)

  groups_fine : (fs : List Field) (n : ℕ) (c : Cursor) → Fine end c → Fine end (groups_end fs xs n c)
  unfolding groups_end
  groups_fine fs n c f = times_fine (λ (d : Cursor). (read_group fs xs d).next) (group_fine fs) n c f

  tuple_fine : (c : Cursor) → Fine end c → Fine end (tuple_end xs c)
  unfolding tuple_end
  tuple_fine c f = let n = column_count xs c in groups_fine (column ∷ []) n.value n.next (number_fine 2 0 most_columns 6 six c f)

  part_fine : (b : Bool) (p : Part) (c : Cursor) → Fine end c → Fine end (read_part b p xs c).next
  unfolding xid_field optional
  part_fine b (one g) c f = field_fine g c f
  part_fine true block_xid c f = field_fine id c f
  part_fine false block_xid c f = f
  part_fine b (groups w low high between fs) c f =
      let n = number_field w low high 6 xs c in
      groups_fine fs n.value (read_group between xs n.next).next (group_fine between n.next (number_fine w low high 6 six c f))
  part_fine b tuple c f = tuple_fine c f
  part_fine b (optional_tuple set) c f = go (eqb (letter_field set xs c).value 0)
    where
      go : (t : Bool)
          → Fine end
          (cond {A = Optional} t (record { letter = 0; start = 0; next = c })
          (record { letter = (letter_field set xs c).value; start = position_of (letter_field set xs c).next; next = tuple_end xs (letter_field set xs c).next })
          ).next
      go true = f
      go false = tuple_fine (letter_field set xs c).next (letter_fine set c f)

  fields_fine : (b : Bool) (ps : List Part) (c : Cursor) → Fine end c → Fine end (read_fields b ps xs c).next
  fields_fine b [] c f = f
  fields_fine b (p ∷ ps) c f = fields_fine b ps (read_part b p xs c).next (part_fine b p c f)

-- what is read
module _ (xs : List ℕ) where
  abbrev Told : Read → Type 0
  Told (Ok m) = Unit {0}
  Told (Err r) = InRange 6 (length xs) r.number r.offset

  settled-told : (c : Cursor) (m : Message) → Fine (length xs) c → Told (settled (finished xs c) m)
  settled-told (Err r) m f = f
  settled-told (Ok a) m f = go (eqb a (length xs))
    where
      go : (t : Bool) → Told (settled (cond t (Ok a) (refuse 5 a)) m)
      go true = tt
      go false = at (within 5 (omega arith) (omega arith)) f

  first-told : (n : ℕ) → 1 ≤ n → n ≤ 6 → Told (refuse n 0)
  first-told n h i = at (within n h i) (omega arith)

  named-told : (b : Bool) (k : Option Kind) → 1 ≤ length xs → Told (read_named k b xs)
  unfolding read_kind
  named-told b None h = first-told 3 (omega arith) (omega arith)
  named-told b (Some k) h =
      let r = read_fields b (layout k) xs (Ok 1) in
      settled-told r.next (message_of k r.parts) (fields_fine xs (length xs) (omega arith) b (layout k) (Ok 1) h)

  read_told : (v : Version) (b : Bool) → Told (read_message v b xs)
  unfolding read_message
  read_told v b = go (not (version_allows v b)) (ltb largest (length xs)) (eqb (length xs) 0) refl (not (version_has v (kind_of (get_or xs 0 0))))
    where
      go : (s t u : Bool) → eqb (length xs) 0 ≡ u → (w : Bool)
          → Told (cond s (refuse 1 0) (cond t (refuse 6 0) (cond u (refuse 2 0) (cond w (refuse 3 0) (read_named (kind_of (get_or xs 0 0)) b xs)))))
      go true t u e w = first-told 1 (omega arith) (omega arith)
      go false true u e w = first-told 6 (omega arith) (omega arith)
      go false false true e w = first-told 2 (omega arith) (omega arith)
      go false false false e true = first-told 3 (omega arith) (omega arith)
      go false false false e false = named-told b (kind_of (get_or xs 0 0)) (omega (arith, eqb-false (length xs) 0 e))

pub read_in_range : ReadInRange
read_in_range v b xs n o e = rw e at (read_told xs v b)
