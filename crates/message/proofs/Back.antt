-- Reading what was written: it is read to its end, and says the same, over layouts. Assumes nothing.
use Prim.Native.Nat.{ℕ, ◌+◌, ◌-◌, ◌^◌, ◌<◌, ◌≤◌}
use mathlib.Core.List.{List, [], ◌∷◌, ◌++◌, append_assoc, append-nil}
use mathlib.Core.Bool.{Bool, true, false, cond, ◌&&◌}
use mathlib.Core.Path.{◌≡◌, refl, sym, ◌∙◌, ap, subst}
use native.Mathlib.Omega.{arith}
use borrow.Author.Tests.{leb-true, le-leb, ltb-true, eqb-true, eq-eqb}
use lib.ListN.{length, get_or, take, drop, length-append}
use lib.Dec.{eqb, leb, ltb}
use Rattle.wire.specs.declared.Span.{Span}
use Rattle.wire.specs.Cursors.{Cursor, Taken}
use Rattle.std.specs.Prelude.{Ok}
use Rattle.wire.specs.Fields.{number_field, letter_field, value_field, in_range, member, position_of}
use Rattle.message.specs.Layout.{Field, Part, number, constant, letter, text, value, column, one, block_xid, groups, tuple, optional_tuple, read_field, read_group, read_part, read_fields, xid_field, Optional, optional, id, groups_end, tuple_end}
use Rattle.message.specs.Messages.{largest}
use Rattle.message.specs.Encode.{digits, cut, from_to}
use Rattle.message.specs.Write.{arity, arities}
use Rattle.message.specs.Pieces.{Piece, bytes_of, number_piece, letter_piece, section_piece, tuple_piece, xid_bytes, xid_piece, field_pieces, group_pieces, part_pieces, layout_pieces}
use Rattle.message.specs.Same.{Content, num, bytes}
use Rattle.message.proofs.Local.{Local, cut-same, Agree, groups_local, tuple_local}
use Rattle.message.proofs.Judged.{Good, AllGood, good-append, test_good, text-good, length_digits, length_cut, bytes-append}
use Rattle.message.proofs.Again.{behind, first, rest}
use Rattle.message.proofs.From.{From, from_first, from_next, from_cut, from_byte, from_agree, number-from, letter-from, text-from, bytes-from}
use Rattle.message.proofs.Says.{field_says, group_says, part_says, layout_says}

-- LAYOUTS THAT CAN BE READ BACK

-- a number's bytes hold its highest value; a column stands in a tuple only
abbrev FineField : Field → Type 0
FineField (number w low high) = ltb high (256 ^ w) ≡ true
FineField (constant k) = Unit {0}
FineField (letter set) = Unit {0}
FineField text = Unit {0}
FineField value = Unit {0}
FineField column = ⊥

abbrev FineGroup : List Field → Type 0
FineGroup [] = Unit {0}
FineGroup (f ∷ fs) = FineField f × FineGroup fs

-- what follows an optional tuple does not look like one: it is a constant that is none of its letters
abbrev NotField : List ℕ → Field → Type 0
NotField set (number w low high) = ⊥
NotField set (constant k) = member set k ≡ false
NotField set (letter l) = ⊥
NotField set text = ⊥
NotField set value = ⊥
NotField set column = ⊥

abbrev NotPart : List ℕ → Part → Type 0
NotPart set (one f) = NotField set f
NotPart set block_xid = ⊥
NotPart set (groups w low high between fs) = ⊥
NotPart set tuple = ⊥
NotPart set (optional_tuple l) = ⊥

abbrev NotIn : List ℕ → List Part → Type 0
NotIn set [] = ⊥
NotIn set (p ∷ ps) = NotPart set p

-- a part, with the parts behind it
abbrev FinePart : Part → List Part → Type 0
FinePart (one f) ps = FineField f
FinePart block_xid ps = Unit {0}
FinePart (groups w low high between fs) ps = (ltb high (256 ^ w) ≡ true) × FineGroup between
FinePart tuple ps = Unit {0}
FinePart (optional_tuple set) ps = NotIn set ps

abbrev pub Fine : List Part → Type 0
Fine [] = Unit {0}
Fine (p ∷ ps) = FinePart p ps × Fine ps

-- WHAT IS READ

-- reading from a on ends behind bs, and what was read says what was written
pub record Reads (next : Cursor) (read written : List Content) (a : ℕ) (bs : List ℕ) : Type 0 where
  pub ends : next ≡ Ok (a + length bs)
  pub says : read ≡ written

abbrev FieldReads : Field → List ℕ → List ℕ → List ℕ → ℕ → Type 0
FieldReads f src v xs a = let r = read_field f xs (Ok a) in Reads r.next (field_says f xs r.values) (field_says f src v) a (bytes_of (field_pieces f src v))

abbrev PartReads : Bool → Part → List ℕ → List ℕ → List ℕ → ℕ → Type 0
PartReads b p src v xs a = let r = read_part b p xs (Ok a) in Reads r.next (part_says p xs r.values) (part_says p src v) a (bytes_of (part_pieces b p src v))

and_right : (s t : Bool) → s && t ≡ true → t ≡ true
and_right true t h = h
and_right false t h = let z : ◌≡◌ {A = ℕ} 0 1 = cc in absurd (omega arith)

-- what lies in its layout is read where it was copied to
module _ (F : List ℕ → Cursor → Cursor) (f : Local F) (src : List ℕ) (s k : ℕ) (q : F src (Ok s) ≡ Ok k) (xs : List ℕ) (a : ℕ) (post : List ℕ) (h : From xs a (from_to src s (F src (Ok s))) post) where
  size : length (from_to src s (F src (Ok s))) ≡ k - s
  size = ap (λ (c : Cursor). length (from_to src s c)) q ∙ length_cut src s (k - s) (f.inside src s k q)

  agrees : Agree src s xs a (k - s)
  agrees = from_agree src post s (k - s) (f.inside src s k q) (subst (λ (c : Cursor). From xs a (from_to src s c) post) q h)

  section_ends : F xs (Ok a) ≡ Ok (a + length (from_to src s (F src (Ok s))))
  section_ends = f.moves src xs s a k q agrees ∙ ap (λ (n : ℕ). Ok (a + n)) (sym size)

  section_says : from_to xs a (F xs (Ok a)) ≡ from_to src s (F src (Ok s))
  section_says =
      let w : a + (k - s) - a ≡ k - s = omega arith in
      ap (from_to xs a) (f.moves src xs s a k q agrees) ∙ ap (cut xs a) w ∙ cut-same (k - s) agrees ∙ ap (from_to src s) (sym q)

module _ (xs : List ℕ) (a : ℕ) (post : List ℕ) where
  number_reads :
      (w low high n v : ℕ) → ltb high (256 ^ w) ≡ true → Good (number_piece w low high n v) → From xs a (digits w v) post
      → number_field w low high n xs (Ok a) ≡ record { value = v; next = Ok (a + length (digits w v)) }
  number_reads w low high n v c g h =
      let i = (test_good (in_range low high v) w n g.0 g.1).0 in
      let r : v ≤ high = leb-true v high (and_right (leb low v) (leb v high) i) in
      let l : high < 256 ^ w = ltb-true high (256 ^ w) c in
      number-from post w low high n v h (omega arith) i ∙ rw (length_digits w v)

  value_reads :
      (src : List ℕ) (s n : ℕ) → n ≤ largest → s + n ≤ length src → From xs a (digits 4 n ++ cut src s n) post
      → value_field xs (Ok a) ≡ record { value = record { start = a + 4; length = n }; next = Ok (a + 4 + n) }
  unfolding value_field
  value_reads src s n m l h =
      let f = from_first (digits 4 n) (cut src s n) post h in
      let k : length (cut src s n) ≡ n = length_cut src s n (omega arith) in
      let d : a + length (digits 4 n) ≡ a + 4 = ap (λ (n : ℕ). a + n) (length_digits 4 n) in
      let t = subst (λ (i : ℕ). From xs i (cut src s n) post) d (from_next (digits 4 n) (cut src s n) post f) in
      rw (number-from (cut src s n ++ post) 4 0 0x7FFFFFFF 4 n f (omega arith) (rw (le-leb 0 n (omega arith), le-leb n 0x7FFFFFFF (omega arith))))
      (rw k at (bytes-from post (cut src s n) t))

module _ (src xs : List ℕ) (a : ℕ) (post : List ℕ) where
  field_reads : (f : Field) (v : List ℕ) → FineField f → AllGood (field_pieces f src v) → From xs a (bytes_of (field_pieces f src v)) post → FieldReads f src v xs a
  unfolding member
  field_reads (number w low high) v c g h =
      let d = digits w (get_or v 0 0) in
      let e = number_reads xs a post w low high 4 (get_or v 0 0) c g.0 (from_first d [] post h) in
      record { ends = ap (λ (f : Taken ℕ). f.next) e ∙ rw (append-nil d); says = ap (λ (f : Taken ℕ). num f.value ∷ []) e }
  field_reads (constant k) v c g h =
      let e = letter-from post (k ∷ []) k h (rw (eq-eqb k k refl)) in
      record { ends = ap (λ (f : Taken ℕ). f.next) e; says = refl }
  field_reads (letter set) v c g h =
      let e = letter-from post set (get_or v 0 0) h (test_good (member set (get_or v 0 0)) 1 4 g.0.0 g.0.1).0 in
      record { ends = ap (λ (f : Taken ℕ). f.next) e; says = ap (λ (f : Taken ℕ). num f.value ∷ []) e }
  field_reads text v c g h =
      let s = get_or v 0 0 in
      let n = get_or v 1 0 in
      let t = cut src s n in
      let i = from_first (t ++ (0 ∷ [])) [] post h in
      let e = text-from post t i (text-good src s n g.0.0 g.0.1).1 in
      let l : a + length t + 1 ≡ a + length ((t ++ (0 ∷ [])) ++ []) = omega (arith, length-append (t ++ (0 ∷ [])) [], length-append t (0 ∷ [])) in
      record {
        ends = ap (λ (f : Taken Span). f.next) e ∙ ap Ok l;
        says = ap (λ (f : Taken Span). bytes (cut xs f.value.start f.value.length) ∷ []) e ∙ ap (λ (b : List ℕ). bytes b ∷ []) (from_cut t ((0 ∷ []) ++ post) (from_first t (0 ∷ []) post i));
      }
  field_reads value v c g h =
      let s = get_or v 0 0 in
      let n = get_or v 1 0 in
      let d = digits 4 n in
      let t = cut src s n in
      let i = test_good (leb (s + n) (length src)) n 2 g.1.0.0 g.1.0.1 in
      let l : s + n ≤ length src = leb-true (s + n) (length src) i.0 in
      let k : length t ≡ n = length_cut src s n (omega arith) in
      let h' : From xs a (d ++ t) post = rw (append-nil t) at h in
      let e = value_reads xs a post src s n (omega (arith, g.1.0.2, i.1)) l h' in
      let r : a + 4 + n ≡ a + length (d ++ (t ++ [])) = omega (arith, length-append d (t ++ []), length-append t [], length_digits 4 n) in
      let p : a + length d ≡ a + 4 = ap (λ (n : ℕ). a + n) (length_digits 4 n) in
      let next = from_next d t post (from_first d t post h') in
      record {
        ends = ap (λ (f : Taken Span). f.next) e ∙ ap Ok r;
        says = ap (λ (f : Taken Span). bytes (cut xs f.value.start f.value.length) ∷ []) e
            ∙ ap (λ (b : List ℕ). bytes b ∷ []) (ap (λ (m : ℕ). cut xs (a + 4) m) (sym k) ∙ ap (λ (m : ℕ). cut xs m (length t)) (sym p) ∙ from_cut t post next);
      }
  field_reads column v c g h = absurd c

module _ (src xs : List ℕ) where
  group_reads :
      (fs : List Field) (v tail post : List ℕ) (a : ℕ) → FineGroup fs → AllGood (group_pieces fs src v) → From xs a (bytes_of (group_pieces fs src v)) post
      → (let r = read_group fs xs (Ok a) in Reads r.next (group_says fs xs (r.values ++ tail)) (group_says fs src v) a (bytes_of (group_pieces fs src v)))
  group_reads [] v tail post a c g h = let z : a + 0 ≡ a = omega arith in record { ends = ap Ok (sym z); says = refl }
  group_reads (f ∷ fs) v tail post a c g h =
      let u = take (arity f) v in
      let w = drop (arity f) v in
      let ps = field_pieces f src u in
      let qs = group_pieces fs src w in
      let bs = bytes_of ps in
      let cs = bytes_of qs in
      let k = good-append ps qs g in
      let h' : From xs a (bs ++ cs) post = rw (bytes-append ps qs) at h in
      let i = from_first bs cs post h' in
      let r = field_reads src xs a (cs ++ post) f u c.0 k.0 i in
      let again = group_reads fs w tail post (a + length bs) c.1 k.1 (from_next bs cs post i) in
      let n = (read_field f xs (Ok a)).next in
      let l : a + length bs + length cs ≡ a + length (bytes_of (ps ++ qs)) = omega (arith, length-append bs cs, ap length (bytes-append ps qs)) in
      record {
        ends = ap (λ (d : Cursor). (read_group fs xs d).next) r.ends ∙ again.ends ∙ ap Ok l;
        says =
            rw (append_assoc (read_field f xs (Ok a)).values (read_group fs xs n).values tail, first f xs (Ok a) ((read_group fs xs n).values ++ tail), rest f xs (Ok a) ((read_group fs xs n).values ++ tail), r.says)
            (ap (λ (d : Cursor). field_says f src u ++ group_says fs xs ((read_group fs xs d).values ++ tail)) r.ends ∙ ap (λ (s : List Content). field_says f src u ++ s) again.says);
      }

letter_not : (set xs : List ℕ) (a : ℕ) → member set (get_or xs a 0) ≡ false → (t : Bool) → ltb a (length xs) ≡ t → (letter_field set xs (Ok a)).value ≡ 0
unfolding letter_field
letter_not set xs a m true e = rw (e, m)
letter_not set xs a m false e = rw e

-- an empty optional tuple is not mistaken for what follows
abbrev Clear : Part → List ℕ → Type 0
Clear (one f) post = Unit {0}
Clear block_xid post = Unit {0}
Clear (groups w low high between fs) post = Unit {0}
Clear tuple post = Unit {0}
Clear (optional_tuple set) post = (k : ℕ) × (rest : List ℕ) × (post ≡ k ∷ rest) × (member set k ≡ false)

module _ (b : Bool) (src xs : List ℕ) (a : ℕ) (post : List ℕ) where
  groups_read :
      (w low high : ℕ) (between fs : List Field) (v : List ℕ) → ltb high (256 ^ w) ≡ true → FineGroup between
      → AllGood (part_pieces b (groups w low high between fs) src v) → From xs a (bytes_of (part_pieces b (groups w low high between fs) src v)) post → PartReads b (groups w low high between fs) src v xs a
  groups_read w low high between fs v c d g h =
      let n = get_or v 0 0 in
      let start = get_or (drop 1 v) (arities between) 0 in
      let ps = group_pieces between src (drop 1 v) in
      let section = section_piece src start (groups_end fs src n (Ok start)) in
      let b₁ = digits w n in
      let b₂ = bytes_of ps in
      let b₃ = section.bytes in
      let split : bytes_of (ps ++ (section ∷ [])) ≡ b₂ ++ b₃ = bytes-append ps (section ∷ []) ∙ ap (λ (l : List ℕ). b₂ ++ l) (append-nil b₃) in
      let h' : From xs a (b₁ ++ (b₂ ++ b₃)) post = rw split at h in
      let k = good-append ps (section ∷ []) g.1 in
      let i = from_first b₁ (b₂ ++ b₃) post h' in
      let e = number_reads xs a ((b₂ ++ b₃) ++ post) w low high 6 n c g.0 i in
      let j = from_first b₂ b₃ post (from_next b₁ (b₂ ++ b₃) post i) in
      let a₁ = a + length b₁ in
      let a₂ = a + length b₁ + length b₂ in
      let p = position_of (read_group between xs (Ok a₁)).next in
      let r = group_reads src xs between (drop 1 v) (p ∷ []) (b₃ ++ post) a₁ d k.0 j in
      let m = from_next b₂ b₃ post j in
      let q : groups_end fs src n (Ok start) ≡ Ok k.1.0.0 = k.1.0.1 in
      let end = section_ends (λ ys c. groups_end fs ys n c) (groups_local fs n) src start k.1.0.0 q xs a₂ post m in
      let said = section_says (λ ys c. groups_end fs ys n c) (groups_local fs n) src start k.1.0.0 q xs a₂ post m in
      let l : a₂ + length b₃ ≡ a + length (b₁ ++ bytes_of (ps ++ (section ∷ []))) = omega (arith, length-append b₁ (bytes_of (ps ++ (section ∷ []))), ap length split, length-append b₂ b₃) in
      let at : p ≡ a₂ = ap position_of r.ends in
      record {
        ends = ap (λ (f : Taken ℕ). groups_end fs xs f.value (read_group between xs f.next).next) e
            ∙ ap (groups_end fs xs n) r.ends ∙ end ∙ ap Ok l;
        says = ap
            (λ (f : Taken ℕ).
            let s = read_group between xs f.next in
            let at = get_or (s.values ++ (position_of s.next ∷ [])) (arities between) 0 in
            num f.value ∷ group_says between xs (s.values ++ (position_of s.next ∷ [])) ++ (bytes (from_to xs at (groups_end fs xs f.value (Ok at))) ∷ []))
            e
            ∙ ap (λ (z : ℕ). num n ∷ group_says between xs ((read_group between xs (Ok a₁)).values ++ (p ∷ [])) ++ (bytes (from_to xs z (groups_end fs xs n (Ok z))) ∷ [])) (behind between xs (Ok a₁) p ∙ at)
            ∙ ap (λ (s : List Content). num n ∷ s ++ (bytes (from_to xs a₂ (groups_end fs xs n (Ok a₂))) ∷ [])) r.says
            ∙ ap (λ (s : List ℕ). num n ∷ group_says between src (drop 1 v) ++ (bytes s ∷ [])) said;
      }

  -- an old tuple that is there or, where t says so, is not
  abbrev OldPieces : List ℕ → (l s : ℕ) → Bool → List Piece
  OldPieces set l s t = cond t [] (letter_piece set l ∷ tuple_piece src s ∷ [])

  optional_read :
      (set : List ℕ) (l s : ℕ) → Clear (optional_tuple set) post → (t : Bool) → eqb l 0 ≡ t → AllGood (OldPieces set l s t) → From xs a (bytes_of (OldPieces set l s t)) post
      → (let o = optional set xs (Ok a) in
      Reads o.next (part_says (optional_tuple set) xs (o.letter ∷ o.start ∷ [])) (num l ∷ cond t [] (bytes (from_to src s (tuple_end src (Ok s))) ∷ [])) a (bytes_of (OldPieces set l s t)))
  unfolding optional
  optional_read set l s c true e g h =
      let k : l ≡ 0 = eqb-true l 0 e in
      let f : From xs a (c.0 ∷ []) c.1 = record { at = h.at; is = h.is ∙ c.2 } in
      let byte : get_or xs a 0 ≡ c.0 = from_byte c.0 [] c.1 f in
      let none : (letter_field set xs (Ok a)).value ≡ 0 = letter_not set xs a (ap (member set) byte ∙ c.3) (ltb a (length xs)) refl in
      let z : a + 0 ≡ a = omega arith in
      let o : optional set xs (Ok a) ≡ record { letter = 0; start = 0; next = Ok a } = rw none in
      record { ends = ap (λ (o : Optional). o.next) o ∙ ap Ok (sym z); says = ap (λ (o : Optional). part_says (optional_tuple set) xs (o.letter ∷ o.start ∷ [])) o ∙ ap (λ (n : ℕ). num n ∷ []) (sym k) }
  optional_read set l s c false e g h =
      let t = from_to src s (tuple_end src (Ok s)) in
      let h' : From xs a (l ∷ t) post = rw (append-nil t) at h in
      let i = from_first (l ∷ []) t post h' in
      let letter = letter-from (t ++ post) set l i (test_good (member set l) 1 4 g.0.0 g.0.1).0 in
      let j = from_next (l ∷ []) t post i in
      let o : optional set xs (Ok a) ≡ record { letter = l; start = a + 1; next = tuple_end xs (Ok (a + 1)) } = rw (letter, e) in
      let end = section_ends tuple_end tuple_local src s g.1.0.0 g.1.0.1 xs (a + 1) post j in
      let said = section_says tuple_end tuple_local src s g.1.0.0 g.1.0.1 xs (a + 1) post j in
      let n : a + 1 + length t ≡ a + length (l ∷ t ++ []) = omega (arith, length-append t []) in
      record {
        ends = ap (λ (o : Optional). o.next) o ∙ end ∙ ap Ok n;
        says = ap (λ (o : Optional). part_says (optional_tuple set) xs (o.letter ∷ o.start ∷ [])) o
            ∙ ap (λ (x : Bool). num l ∷ cond x [] (bytes (from_to xs (a + 1) (tuple_end xs (Ok (a + 1)))) ∷ [])) e
            ∙ ap (λ (x : List ℕ). num l ∷ bytes x ∷ []) said;
      }

  part_reads : (p : Part) (ps : List Part) (v : List ℕ) → FinePart p ps → AllGood (part_pieces b p src v) → Clear p post → From xs a (bytes_of (part_pieces b p src v)) post → PartReads b p src v xs a
  unfolding xid_field
  part_reads (one f) ps v c g k h = field_reads src xs a post f v c g h
  part_reads block_xid ps v c g k h = go b g h
    where
      go : (t : Bool) → AllGood (xid_piece t (get_or v 0 0) ∷ []) → From xs a (xid_bytes t (get_or v 0 0) ++ []) post → PartReads t block_xid src v xs a
      go true g h = let r = field_reads src xs a post id v refl g h in record { ends = r.ends; says = r.says }
      go false g h =
          let z : a + 0 ≡ a = omega arith in
          let k : get_or v 0 0 ≡ 0 = eqb-true (get_or v 0 0) 0 (test_good (eqb (get_or v 0 0) 0) 0 4 g.0.0 g.0.1).0 in
          record { ends = ap Ok (sym z); says = ap (λ (n : ℕ). num n ∷ []) (sym k) }
  part_reads (groups w low high between fs) ps v c g k h = groups_read w low high between fs v c.0 c.1 g h
  part_reads tuple ps v c g k h =
      let s = get_or v 0 0 in
      let t = from_to src s (tuple_end src (Ok s)) in
      let i = from_first t [] post h in
      record {
        ends = section_ends tuple_end tuple_local src s g.0.0 g.0.1 xs a post i ∙ rw (append-nil t);
        says = ap (λ (x : List ℕ). bytes x ∷ []) (section_says tuple_end tuple_local src s g.0.0 g.0.1 xs a post i);
      }
  part_reads (optional_tuple set) ps v c g k h = optional_read set (get_or v 0 0) (get_or v 1 0) k (eqb (get_or v 0 0) 0) refl g h

clear_of : (b : Bool) (p : Part) (ps : List Part) (src : List ℕ) (vs : List (List ℕ)) (post : List ℕ) → FinePart p ps → Clear p (bytes_of (layout_pieces b ps src vs) ++ post)
clear_of b (one f) ps src vs post c = tt
clear_of b block_xid ps src vs post c = tt
clear_of b (groups w low high between fs) ps src vs post c = tt
clear_of b tuple ps src vs post c = tt
clear_of b (optional_tuple set) [] src vs post c = absurd c
clear_of b (optional_tuple set) (q ∷ ps) src vs post c = go q c
  where
    field : (f : Field) → NotField set f → Clear (optional_tuple set) (bytes_of (layout_pieces b (one f ∷ ps) src vs) ++ post)
    field (number w low high) c = absurd c
    field (constant k) c = (k, bytes_of (layout_pieces b ps src (drop 1 vs)) ++ post, refl, c)
    field (letter l) c = absurd c
    field text c = absurd c
    field value c = absurd c
    field column c = absurd c

    go : (q : Part) → NotPart set q → Clear (optional_tuple set) (bytes_of (layout_pieces b (q ∷ ps) src vs) ++ post)
    go (one f) c = field f c
    go block_xid c = absurd c
    go (groups w low high between fs) c = absurd c
    go tuple c = absurd c
    go (optional_tuple l) c = absurd c

pub layout_reads :
    (b : Bool) (src xs : List ℕ) (ps : List Part) (vs : List (List ℕ)) (a : ℕ) (post : List ℕ) → Fine ps → AllGood (layout_pieces b ps src vs) → From xs a (bytes_of (layout_pieces b ps src vs)) post
    → (let r = read_fields b ps xs (Ok a) in Reads r.next (layout_says ps xs r.parts) (layout_says ps src vs) a (bytes_of (layout_pieces b ps src vs)))
layout_reads b src xs [] vs a post c g h = let z : a + 0 ≡ a = omega arith in record { ends = ap Ok (sym z); says = refl }
layout_reads b src xs (p ∷ ps) vs a post c g h =
    let v = get_or vs 0 [] in
    let us = part_pieces b p src v in
    let ws = layout_pieces b ps src (drop 1 vs) in
    let bs = bytes_of us in
    let cs = bytes_of ws in
    let k = good-append us ws g in
    let h' : From xs a (bs ++ cs) post = rw (bytes-append us ws) at h in
    let i = from_first bs cs post h' in
    let r = part_reads b src xs a (cs ++ post) p ps v c.0 k.0 (clear_of b p ps src (drop 1 vs) post c.0) i in
    let again = layout_reads b src xs ps (drop 1 vs) (a + length bs) post c.1 k.1 (from_next bs cs post i) in
    let l : a + length bs + length cs ≡ a + length (bytes_of (us ++ ws)) = omega (arith, length-append bs cs, ap length (bytes-append us ws)) in
    record {
      ends = ap (λ (d : Cursor). (read_fields b ps xs d).next) r.ends ∙ again.ends ∙ ap Ok l;
      says = rw r.says (ap (λ (d : Cursor). part_says p src v ++ layout_says ps xs (read_fields b ps xs d).parts) r.ends ∙ ap (λ (s : List Content). part_says p src v ++ s) again.says);
    }
