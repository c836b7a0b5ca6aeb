-- DEMAND 1: the refusals of writing are in range. Assumes nothing.
use Prim.Native.Nat.{ℕ, zero, suc, ◌+◌, ◌-◌, ◌≤◌}
use mathlib.Core.List.{List, [], ◌∷◌, ◌++◌}
use mathlib.Core.Bool.{Bool, true, false, not, cond}
use Rattle.std.specs.Prelude.{Some, Ok, Err}
use mathlib.Core.Path.{◌≡◌, refl}
use native.Mathlib.Omega.{arith}
use borrow.Author.Tests.{leb-true}
use lib.ListN.{length, get_or, take, drop}
use lib.Dec.{eqb, leb}
use Rattle.wire.specs.Cursors.{Cursor}
use Rattle.wire.specs.Fields.{number_field, letter_field, text_field, bytes_field, in_range, member}
use Rattle.message.specs.declared.Version.{Version}
use Rattle.message.specs.declared.Message.{Message}
use Rattle.message.specs.Layout.{Field, Part, number, constant, letter, text, value, column, one, block_xid, groups, tuple, optional_tuple, id, column_letters, has_value, most_columns, column_count}
use Rattle.message.specs.Kinds.{layout, letter_of}
use Rattle.message.specs.Versions.{version_allows, version_has}
use Rattle.message.specs.Messages.{largest}
use Rattle.message.specs.Encode.{digits, cut, kind_of_message, parts_of}
use Rattle.message.specs.Write.{Writing, bytes, refused, so_far, good, bad, Copy, copy, copied, copy_value, copy_column, copy_field, copy_group, copy_groups, copy_tuple, write_number, write_letter, write_text, write_value, write_field, arity, arities, write_group, write_part, write_fields, write_message}
use Rattle.message.proofs.InRange.{InRange, Named, within, two, four, six, Fine, at, number_fine, letter_fine, text_fine, bytes_fine}

-- WRITING any message with any source, under any version: 1 to 6, at most where the largest message ends
abbrev pub WriteInRange : Type 0
WriteInRange = (v : Version) (b : Bool) (m : Message) (src : List ℕ) (n o : ℕ) → write_message v b m src ≡ refused n o → InRange 6 largest n o

-- bytes that are no more than the largest message, or a refusal inside it
abbrev Kept : Writing → Type 0
Kept (bytes bs) = length bs ≤ largest
Kept (refused n o) = InRange 6 largest n o

so_far_kept : (bs : List ℕ) → Kept (so_far bs)
so_far_kept bs = go (leb (length bs) largest) refl
  where
    go : (t : Bool) → leb (length bs) largest ≡ t → Kept (cond t (bytes bs) (refused 6 0))
    go true e = leb-true (length bs) largest e
    go false e = at six (omega arith)

good-kept : (field : List ℕ) (d : Writing) → Kept d → Kept (good field d)
good-kept field (bytes bs) k = so_far_kept (bs ++ field)
good-kept field (refused n o) k = k

bad-kept : (n : ℕ) → Named n → (d : Writing) → Kept d → Kept (bad n d)
bad-kept n i (bytes bs) k = at i k
bad-kept n i (refused m o) k = k

test-kept : (t : Bool) (field : List ℕ) (n : ℕ) → Named n → (d : Writing) → Kept d → Kept (cond t (good field d) (bad n d))
test-kept true field n i d k = good-kept field d k
test-kept false field n i d k = bad-kept n i d k

-- what lies in the source
module _ (src : List ℕ) where
  -- a field that is read at a place of the source, inside it or not
  copied-kept : (a : ℕ) (e : Cursor) → Fine (a + length src) e → (c : Copy) → Kept c.to → Kept (copied src e c).to
  copied-kept a (Ok e) f c k = good-kept (cut src c.from (e - c.from)) c.to k
  copied-kept a (Err r) f c k = bad-kept r.number (at f (omega arith)) c.to k

  copy-number : (w low high n : ℕ) → Named n → (c : Copy) → Kept c.to → Kept (copied src (number_field w low high n src (Ok c.from)).next c).to
  copy-number w low high n i c = copied-kept c.from (number_field w low high n src (Ok c.from)).next (number_fine src (c.from + length src) (omega arith) w low high n i (Ok c.from) (omega arith)) c

  copy-letter : (set : List ℕ) (c : Copy) → Kept c.to → Kept (copied src (letter_field set src (Ok c.from)).next c).to
  copy-letter set c = copied-kept c.from (letter_field set src (Ok c.from)).next (letter_fine src (c.from + length src) (omega arith) set (Ok c.from) (omega arith)) c

  copy-text : (c : Copy) → Kept c.to → Kept (copied src (text_field src (Ok c.from)).next c).to
  copy-text c = copied-kept c.from (text_field src (Ok c.from)).next (text_fine src (c.from + length src) (omega arith) (Ok c.from) (omega arith)) c

  copy-bytes : (n : ℕ) (c : Copy) → Kept c.to → Kept (copied src (bytes_field n src (Ok c.from)).next c).to
  copy-bytes n c = copied-kept c.from (bytes_field n src (Ok c.from)).next (bytes_fine src (c.from + length src) (omega arith) n (Ok c.from) (omega arith)) c

  copy-value : (c : Copy) → Kept c.to → Kept (copy_value src c).to
  copy-value c k =
      let l = number_field 4 0 0x7FFFFFFF 4 src (Ok c.from) in
      copy-bytes l.value (copied src l.next c) (copy-number 4 0 0x7FFFFFFF 4 four c k)

  copy-column : (c : Copy) → Kept c.to → Kept (copy_column src c).to
  copy-column c k = let l = letter_field column_letters src (Ok c.from) in go (has_value l.value) (copied src l.next c) (copy-letter column_letters c k)
    where
      go : (t : Bool) (d : Copy) → Kept d.to → Kept (cond t (copy_value src d) d).to
      go true d k = copy-value d k
      go false d k = k

  copy_field_lem : (f : Field) (c : Copy) → Kept c.to → Kept (copy_field f src c).to
  copy_field_lem (number w low high) c k = copy-number w low high 4 four c k
  copy_field_lem (constant l) c k = copy-letter (l ∷ []) c k
  copy_field_lem (letter set) c k = copy-letter set c k
  copy_field_lem text c k = copy-text c k
  copy_field_lem value c k = copy-value c k
  copy_field_lem column c k = copy-column c k

  copy_group_lem : (fs : List Field) (c : Copy) → Kept c.to → Kept (copy_group fs src c).to
  copy_group_lem [] c k = k
  copy_group_lem (f ∷ fs) c k = copy_group_lem fs (copy_field f src c) (copy_field_lem f c k)

  copy-groups : (fs : List Field) (n : ℕ) (c : Copy) → Kept c.to → Kept (copy_groups n fs src c).to
  copy-groups fs zero c k = k
  copy-groups fs (suc n) c k = copy-groups fs n (copy_group fs src c) (copy_group_lem fs c k)

  copy-tuple : (c : Copy) → Kept c.to → Kept (copy_tuple src c).to
  copy-tuple c k =
      let n = column_count src (Ok c.from) in
      copy-groups (column ∷ []) n.value (copied src n.next c) (copy-number 2 0 most_columns 6 six c k)

  write_text_lem : (start n : ℕ) (d : Writing) → Kept d → Kept (write_text src start n d)
  write_text_lem start n d k = go (leb (start + n) (length src)) (member (cut src start n) 0)
    where
      go : (t u : Bool) → Kept (cond t (cond u (bad 4 d) (good (cut src start n ++ (0 ∷ [])) d)) (bad 2 d))
      go true true = bad-kept 4 four d k
      go true false = good-kept (cut src start n ++ (0 ∷ [])) d k
      go false u = bad-kept 2 two d k

  write_value_lem : (start n : ℕ) (d : Writing) → Kept d → Kept (write_value src start n d)
  write_value_lem start n d k = test-kept (leb (start + n) (length src)) (cut src start n) 2 two (good (digits 4 n) d) (good-kept (digits 4 n) d k)

  write_field_lem : (f : Field) (v : List ℕ) (d : Writing) → Kept d → Kept (write_field f src v d)
  write_field_lem (number w low high) v d k = test-kept (in_range low high (get_or v 0 0)) (digits w (get_or v 0 0)) 4 four d k
  write_field_lem (constant l) v d k = good-kept (l ∷ []) d k
  write_field_lem (letter set) v d k = test-kept (member set (get_or v 0 0)) (get_or v 0 0 ∷ []) 4 four d k
  write_field_lem text v d k = write_text_lem (get_or v 0 0) (get_or v 1 0) d k
  write_field_lem value v d k = write_value_lem (get_or v 0 0) (get_or v 1 0) d k
  write_field_lem column v d k = go (has_value (get_or v 0 0)) (write_letter column_letters (get_or v 0 0) d) (test-kept (member column_letters (get_or v 0 0)) (get_or v 0 0 ∷ []) 4 four d k)
    where
      go : (t : Bool) (e : Writing) → Kept e → Kept (cond t (write_value src (get_or v 1 0) (get_or v 2 0) e) e)
      go true e k = write_value_lem (get_or v 1 0) (get_or v 2 0) e k
      go false e k = k

  write_group_lem : (fs : List Field) (v : List ℕ) (d : Writing) → Kept d → Kept (write_group fs src v d)
  write_group_lem [] v d k = k
  write_group_lem (f ∷ fs) v d k = write_group_lem fs (drop (arity f) v) (write_field f src (take (arity f) v) d) (write_field_lem f (take (arity f) v) d k)

  write_part_lem : (b : Bool) (p : Part) (v : List ℕ) (d : Writing) → Kept d → Kept (write_part b p src v d)
  write_part_lem b (one f) v d k = write_field_lem f v d k
  write_part_lem true block_xid v d k = write_field_lem id v d k
  write_part_lem false block_xid v d k = go (eqb (get_or v 0 0) 0)
    where
      go : (t : Bool) → Kept (cond t d (bad 4 d))
      go true = k
      go false = bad-kept 4 four d k
  write_part_lem b (groups w low high between fs) v d k =
      let n = get_or v 0 0 in
      let c = write_number w low high 6 n d in
      copy-groups fs n (copy (get_or (drop 1 v) (arities between) 0) (write_group between src (drop 1 v) c))
      (write_group_lem between (drop 1 v) c (test-kept (in_range low high n) (digits w n) 6 six d k))
  write_part_lem b tuple v d k = copy-tuple (copy (get_or v 0 0) d) k
  write_part_lem b (optional_tuple set) v d k = go (eqb (get_or v 0 0) 0)
    where
      go : (t : Bool) → Kept (cond t d (copy_tuple src (copy (get_or v 1 0) (write_letter set (get_or v 0 0) d))).to)
      go true = k
      go false = copy-tuple (copy (get_or v 1 0) (write_letter set (get_or v 0 0) d)) (test-kept (member set (get_or v 0 0)) (get_or v 0 0 ∷ []) 4 four d k)

  write_fields_lem : (b : Bool) (ps : List Part) (vs : List (List ℕ)) (d : Writing) → Kept d → Kept (write_fields b ps src vs d)
  write_fields_lem b [] vs d k = k
  write_fields_lem b (p ∷ ps) vs d k = write_fields_lem b ps (drop 1 vs) (write_part b p src (get_or vs 0 []) d) (write_part_lem b p (get_or vs 0 []) d k)

  write_kept : (v : Version) (b : Bool) (m : Message) → Kept (write_message v b m src)
  unfolding write_message
  write_kept v b m = go (not (version_allows v b)) (not (version_has v (Some (kind_of_message m))))
    where
      go : (t u : Bool) → Kept (cond t (refused 1 0) (cond u (refused 3 0) (write_fields b (layout (kind_of_message m)) src (parts_of m) (good (letter_of (kind_of_message m) ∷ []) (bytes [])))))
      go true u = at (within 1 (omega arith) (omega arith)) (omega arith)
      go false true = at (within 3 (omega arith) (omega arith)) (omega arith)
      go false false =
          let k = kind_of_message m in
          write_fields_lem b (layout k) (parts_of m) (good (letter_of k ∷ []) (bytes [])) (so_far_kept (letter_of k ∷ []))

pub write_in_range : WriteInRange
write_in_range v b m src n o e = rw e at (write_kept src v b m)
