-- Writing what was read: it is accepted, and spells the bytes that were read, over layouts. Assumes nothing.
use Prim.Native.Nat.{ℕ, zero, suc, ◌+◌, ◌-◌, ◌*◌, ◌/◌, ◌%◌, ◌<◌, ◌≤◌}
use mathlib.Core.List.{List, [], ◌∷◌, ◌++◌, append_assoc, append-nil}
use mathlib.Core.Bool.{Bool, true, false, cond, ◌||◌}
use mathlib.Core.Path.{◌≡◌, refl, sym, ◌∙◌, ap, subst}
use native.Mathlib.Omega.{arith}
use borrow.Author.Tests.{le-leb, eqb-true, ne_eqb}
use lib.ListN.{length, get_or, take, drop, length-drop, length-append}
use lib.Seq.{take-suc, drop-cons, take-add, drop-drop, get_or-drop, get_or-take, get_or-append_seam}
use lib.Dec.{eqb}
use Rattle.wire.specs.declared.Span.{Span}
use Rattle.wire.specs.Cursors.{Cursor, Taken}
use Rattle.std.specs.Prelude.{Ok}
use Rattle.wire.specs.Numbers.{be, most32}
use Rattle.wire.specs.Fields.{number_field, letter_field, text_field, bytes_field, value_field, member, position_of, until_zero}
use Rattle.wire.proofs.Cases.{letter_cases}
use Rattle.wire.proofs.There.{number_inv, number_read, letter_inv, letter_read, text_inv, text_read, bytes_inv, bytes_read, until_before, until_zero_lem}
use Rattle.message.specs.Layout.{Field, Part, number, constant, letter, text, value, column, one, block_xid, groups, tuple, optional_tuple, read_field, read_group, read_groups, read_part, read_fields, xid_field, Optional, optional, column_letters, has_value, column_letter, column_value, column_end, groups_end, tuple_end}
use Rattle.message.specs.Messages.{largest}
use Rattle.message.specs.Encode.{digits, cut}
use Rattle.message.specs.Write.{arity, arities}
use Rattle.message.specs.Pieces.{Piece, placed, steps, bytes_of, tested, number_piece, letter_piece, byte_piece, length_piece, text_piece, content_piece, section_piece, value_pieces, xid_piece, tuple_piece, old_pieces, field_pieces, group_pieces, part_pieces, layout_pieces}
use Rattle.message.proofs.Local.{Local, through, group_end, value_local, group_local, groups_local, tuple_local, fields_stay}
use Rattle.message.proofs.Judged.{steps-append, bytes-append}

-- FIELDS AND THEIR NUMBERS

arity-count : (f : Field) (xs : List ℕ) (c : Cursor) → length (read_field f xs c).values ≡ arity f
arity-count (number w low high) xs c = refl
arity-count (constant k) xs c = refl
arity-count (letter set) xs c = refl
arity-count text xs c = refl
arity-count value xs c = refl
arity-count column xs c = refl

arities-count : (fs : List Field) (xs : List ℕ) (c : Cursor) → length (read_group fs xs c).values ≡ arities fs
arities-count [] xs c = refl
arities-count (f ∷ fs) xs c =
    length-append (read_field f xs c).values (read_group fs xs (read_field f xs c).next).values
    ∙ ap (λ (k : ℕ). k + length (read_group fs xs (read_field f xs c).next).values) (arity-count f xs c)
    ∙ ap (λ (k : ℕ). arity f + k) (arities-count fs xs (read_field f xs c).next)

-- the number behind a group's numbers
pub behind : (fs : List Field) (xs : List ℕ) (c : Cursor) (p : ℕ) → get_or ((read_group fs xs c).values ++ (p ∷ [])) (arities fs) 0 ≡ p
behind fs xs c p = ap (λ (k : ℕ). get_or ((read_group fs xs c).values ++ (p ∷ [])) k 0) (sym (arities-count fs xs c)) ∙ get_or-append_seam (read_group fs xs c).values p [] 0

-- a field's numbers, and what is behind them
pub first : (f : Field) (xs : List ℕ) (c : Cursor) (r : List ℕ) → take (arity f) ((read_field f xs c).values ++ r) ≡ (read_field f xs c).values
first (number w low high) xs c r = refl
first (constant k) xs c r = refl
first (letter set) xs c r = refl
first text xs c r = refl
first value xs c r = refl
first column xs c r = refl

pub rest : (f : Field) (xs : List ℕ) (c : Cursor) (r : List ℕ) → drop (arity f) ((read_field f xs c).values ++ r) ≡ r
rest (number w low high) xs c r = refl
rest (constant k) xs c r = refl
rest (letter set) xs c r = refl
rest text xs c r = refl
rest value xs c r = refl
rest column xs c r = refl

-- A TEXT WITHOUT A ZERO BYTE

member-none : (ys : List ℕ) → ((i : ℕ) → i < length ys → get_or ys i 0 ≡ 0 → ⊥) → member ys 0 ≡ false
unfolding member
member-none [] h = refl
member-none (y ∷ ys) h = rw (ne_eqb y 0 (h 0 (omega arith))) (member-none ys (λ i k e. h (suc i) (omega arith) e))

length-take_below : (n : ℕ) (l : List ℕ) → length (take n l) ≤ n
length-take_below zero l = omega arith
length-take_below (suc n) [] = omega arith
length-take_below (suc n) (x ∷ l) = let r : length (take n l) ≤ n = length-take_below n l in omega arith

text_clear : (ys : List ℕ) → member (take (until_zero ys) ys) 0 ≡ false
text_clear ys =
    member-none (take (until_zero ys) ys)
    (λ i k e.
    let l : i < until_zero ys = omega (arith, length-take_below (until_zero ys) ys) in
    until_before ys i l (sym (get_or-take (until_zero ys) ys i 0 l) ∙ e))

-- the one letter of a set of one
pub only-letter : (k x : ℕ) → member (k ∷ []) x ≡ true → k ≡ x
unfolding member
only-letter k x h = go (eqb k x) refl h
  where
    go : (t : Bool) → eqb k x ≡ t → t || false ≡ true → k ≡ x
    go true e h = eqb-true k x e
    go false e h = let z : ◌≡◌ {A = ℕ} 0 1 = cc in absurd (omega arith)

-- the digits of the number that bytes spell are those bytes
module _ (xs : List ℕ) (small : (i : ℕ) → get_or xs i 0 < 256) where
  pub digits-be : (w a : ℕ) → a + w ≤ length xs → digits w (be w xs a) ≡ cut xs a w
  unfolding digits be
  digits-be zero a h = refl
  digits-be (suc k) a h =
      let x = get_or xs (a + k) 0 in
      let b : x < 256 = small (a + k) in
      let high : (be k xs a * 256 + x) / 256 ≡ be k xs a = omega arith in
      let low : (be k xs a * 256 + x) % 256 ≡ x = omega arith in
      let l : k < length (drop a xs) = simp length-drop (omega arith) in
      rw (high, low, digits-be k a (omega arith), take-suc (drop a xs) k 0, get_or-drop)

module _ (xs : List ℕ) (small : (i : ℕ) → get_or xs i 0 < 256) (short : length xs ≤ largest) where
  -- pieces are accepted from a to e, and spell what lies there
  pub record Again (ps : List Piece) (a e : ℕ) : Type 0 where
    pub ahead : a ≤ e
    pub inside : e ≤ length xs
    pub accepted : steps ps (Ok a) ≡ Ok e
    pub spells : bytes_of ps ≡ cut xs a (e - a)

  again_none : (a : ℕ) → a ≤ length xs → Again [] a a
  again_none a h = let z : a - a ≡ 0 = omega arith in record { ahead = omega arith; inside = h; accepted = refl; spells = rw z }

  again_one : (p : Piece) (a k e : ℕ) → p.judgement ≡ Ok k → e ≡ a + (k - p.start) → e ≤ length xs → p.bytes ≡ cut xs a (e - a) → Again (p ∷ []) a e
  unfolding placed
  again_one p a k e j q h b =
      let l : a + (k - p.start) ≤ largest = omega arith in
      record {
        ahead = omega arith;
        inside = h;
        accepted = rw (j, le-leb (a + (k - p.start)) largest l) (ap Ok (sym q));
        spells = append-nil p.bytes ∙ b;
      }

  again_then : (ps qs : List Piece) (a m e : ℕ) → Again ps a m → Again qs m e → Again (ps ++ qs) a e
  again_then ps qs a m e f g =
      let i : e - a ≡ (m - a) + (e - m) = omega (arith, f.ahead, g.ahead) in
      let j : a + (m - a) ≡ m = omega (arith, f.ahead) in
      record {
        ahead = omega (arith, f.ahead, g.ahead);
        inside = g.inside;
        accepted = steps-append ps qs (Ok a) ∙ ap (steps qs) f.accepted ∙ g.accepted;
        spells = bytes-append ps qs ∙ rw (f.spells, g.spells, i, take-add (m - a) (e - m) (drop a xs), drop-drop, j);
      }

  number_again : (w low high n a e : ℕ) → (number_field w low high n xs (Ok a)).next ≡ Ok e → Again (number_piece w low high n (number_field w low high n xs (Ok a)).value ∷ []) a e
  number_again w low high n a e q =
      let i = number_inv w low high n xs a e q in
      let z : e - a ≡ w = omega (arith, i.2) in
      rw (number_read w low high n xs a i.0 i.1)
      (again_one (number_piece w low high n (be w xs a)) a w e (rw i.1) (i.2 ∙ omega arith) (omega (arith, i.0, i.2)) (rw z (digits-be xs small w a i.0)))

  byte_again : (a k : ℕ) (j : Cursor) → j ≡ Ok 1 → a < length xs → get_or xs a 0 ≡ k → (e : ℕ) → e ≡ a + 1 → Again (record { bytes = k ∷ []; start = 0; judgement = j } ∷ []) a e
  byte_again a k j q l g e p =
      let z : e - a ≡ 1 = omega arith in
      again_one (record { bytes = k ∷ []; start = 0; judgement = j }) a 1 e q (omega arith) (omega arith) (rw (z, drop-cons xs a 0 l, g))

  letter_again : (set : List ℕ) (a e : ℕ) → (letter_field set xs (Ok a)).next ≡ Ok e → Again (letter_piece set (letter_field set xs (Ok a)).value ∷ []) a e
  letter_again set a e q =
      let i = letter_inv set xs a e q in
      rw (letter_read set xs a i.0 i.1) (byte_again a (get_or xs a 0) (tested (member set (get_or xs a 0)) 1 4) (rw i.1) i.0 refl e i.2)

  constant_again : (k a e : ℕ) → (letter_field (k ∷ []) xs (Ok a)).next ≡ Ok e → Again (byte_piece k ∷ []) a e
  constant_again k a e q =
      let i = letter_inv (k ∷ []) xs a e q in
      byte_again a k (Ok 1) refl i.0 (sym (only-letter k (get_or xs a 0) i.1)) e i.2

  text_again : (a e : ℕ) → (text_field xs (Ok a)).next ≡ Ok e → (let s = (text_field xs (Ok a)).value in Again (text_piece xs s.start s.length ∷ []) a e)
  text_again a e q =
      let i = text_inv xs a e q in
      let u = until_zero (drop a xs) in
      let l : a + u ≤ length xs = omega (arith, i.0) in
      let k : u < length (drop a xs) = simp length-drop (omega (arith, i.0)) in
      let z : e - a ≡ suc u = omega (arith, i.1) in
      rw (text_read xs a u refl i.0)
      (again_one (text_piece xs a u) a (u + 1) e (rw (le-leb (a + u) (length xs) l, text_clear (drop a xs))) (omega (arith, i.1)) (omega (arith, i.0, i.1))
      (rw (z, take-suc (drop a xs) u 0, until_zero_lem (drop a xs) k)))

  value_again : (a e : ℕ) → (value_field xs (Ok a)).next ≡ Ok e → (let s = (value_field xs (Ok a)).value in Again (value_pieces xs s.start s.length) a e)
  unfolding value_field bytes_field
  value_again a e q =
      let f = number_field 4 0 0x7FFFFFFF 4 xs (Ok a) in
      let n = be 4 xs a in
      let m = through (λ (c : Cursor). (bytes_field f.value xs c).next) (λ n o. refl) f.next e q in
      let i = number_inv 4 0 0x7FFFFFFF 4 xs a m.0 m.1 in
      let v = number_read 4 0 0x7FFFFFFF 4 xs a i.0 i.1 in
      let j = bytes_inv xs (a + 4) n e (subst (λ (f : Taken ℕ). (bytes_field f.value xs f.next).next ≡ Ok e) v q) in
      let s : value_field xs (Ok a) ≡ record { value = record { start = a + 4; length = n }; next = Ok (a + 4 + n) } = ap (λ (f : Taken ℕ). bytes_field f.value xs f.next) v ∙ bytes_read xs (a + 4) n j.0 in
      let y : a + 4 - a ≡ 4 = omega arith in
      let z : e - (a + 4) ≡ n = omega (arith, j.1) in
      subst (λ (s : Taken Span). Again (length_piece s.value.length ∷ content_piece xs s.value.start s.value.length ∷ []) a e) (sym s)
      (again_then (length_piece n ∷ []) (content_piece xs (a + 4) n ∷ []) a (a + 4) e
      (again_one (length_piece n) a 4 (a + 4) refl (omega arith) i.0 (rw y (digits-be xs small 4 a i.0)))
      (again_one (content_piece xs (a + 4) n) (a + 4) n e (rw (le-leb (a + 4 + n) (length xs) j.0)) (omega (arith, j.1)) (omega (arith, j.0, j.1)) (rw z)))

  section_again : (F : List ℕ → Cursor → Cursor) → Local F → (a e : ℕ) → a ≤ length xs → F xs (Ok a) ≡ Ok e → Again (section_piece xs a (F xs (Ok a)) ∷ []) a e
  section_again F f a e h q =
      rw q (again_one (section_piece xs a (Ok e)) a e e refl (omega (arith, f.ahead xs a e q)) (omega (arith, f.inside xs a e q)) refl)

  -- a letter, and where it says so a value
  column_again : (a e : ℕ) → column_end xs (Ok a) ≡ Ok e → (let k = (column_letter xs (Ok a)).value in let v = column_value xs (Ok a) in Again (letter_piece column_letters k ∷ cond (has_value k) (value_pieces xs v.start v.length) []) a e)
  unfolding column_end column_value
  column_again a e = go (has_value (column_letter xs (Ok a)).value)
    where
      k : Taken ℕ
      k = column_letter xs (Ok a)

      go : (t : Bool) → cond t (value_field xs k.next).next k.next ≡ Ok e → (let v = cond t (value_field xs k.next).value (record { start = 0; length = 0 }) in Again (letter_piece column_letters k.value ∷ cond t (value_pieces xs v.start v.length) []) a e)
      go true q =
          let m = through (λ (c : Cursor). (value_field xs c).next) (value_local.stays xs) k.next e q in
          again_then (letter_piece column_letters k.value ∷ []) (let v = (value_field xs k.next).value in value_pieces xs v.start v.length) a m.0 e (letter_again column_letters a m.0 m.1)
          (subst (λ (c : Cursor). let v = (value_field xs c).value in Again (value_pieces xs v.start v.length) m.0 e) (sym m.1) (value_again m.0 e m.2))
      go false q = letter_again column_letters a e q

  field_again : (f : Field) (a e : ℕ) → a ≤ length xs → (read_field f xs (Ok a)).next ≡ Ok e → Again (field_pieces f xs (read_field f xs (Ok a)).values) a e
  field_again (number w low high) a e h q = number_again w low high 4 a e q
  field_again (constant k) a e h q = constant_again k a e q
  field_again (letter set) a e h q = letter_again set a e q
  field_again text a e h q = text_again a e q
  field_again value a e h q = value_again a e q
  field_again column a e h q = column_again a e q

  group_again : (fs : List Field) (tail : List ℕ) (a e : ℕ) → a ≤ length xs → (read_group fs xs (Ok a)).next ≡ Ok e → Again (group_pieces fs xs ((read_group fs xs (Ok a)).values ++ tail)) a e
  group_again [] tail a e h q = let p : a ≡ e = cc in subst (Again [] a) p (again_none a h)
  group_again (f ∷ fs) tail a e h q =
      let n = (read_field f xs (Ok a)).next in
      let m = through (group_end fs xs) ((group_local fs).stays xs) n e q in
      let g = field_again f a m.0 h m.1 in
      rw (append_assoc (read_field f xs (Ok a)).values (read_group fs xs n).values tail, first f xs (Ok a) ((read_group fs xs n).values ++ tail), rest f xs (Ok a) ((read_group fs xs n).values ++ tail))
      (again_then (field_pieces f xs (read_field f xs (Ok a)).values) (group_pieces fs xs ((read_group fs xs n).values ++ tail)) a m.0 e g
      (subst (λ (c : Cursor). Again (group_pieces fs xs ((read_group fs xs c).values ++ tail)) m.0 e) (sym m.1) (group_again fs tail m.0 e g.inside m.2)))

  groups_again :
      (b : Bool) (w low high : ℕ) (between fs : List Field) (a e : ℕ) → (read_groups w low high between fs xs (Ok a)).next ≡ Ok e
      → Again (part_pieces b (groups w low high between fs) xs (read_groups w low high between fs xs (Ok a)).values) a e
  groups_again b w low high between fs a e q =
      let n = number_field w low high 6 xs (Ok a) in
      let s = read_group between xs n.next in
      let m = through (groups_end fs xs n.value) ((groups_local fs n.value).stays xs) s.next e q in
      let k = through (group_end between xs) ((group_local between).stays xs) n.next m.0 m.1 in
      go k.0 m.0 k.1 k.2 m.2
    where
      go :
          (k m : ℕ) → (number_field w low high 6 xs (Ok a)).next ≡ Ok k → (read_group between xs (Ok k)).next ≡ Ok m → groups_end fs xs (number_field w low high 6 xs (Ok a)).value (Ok m) ≡ Ok e
          → Again (part_pieces b (groups w low high between fs) xs (read_groups w low high between fs xs (Ok a)).values) a e
      go k m p q r =
          let n = (number_field w low high 6 xs (Ok a)).value in
          let v = (read_group between xs (Ok k)).values ++ (m ∷ []) in
          let f = number_again w low high 6 a k p in
          let g = group_again between (m ∷ []) k m f.inside q in
          rw (p, q, behind between xs (Ok k) m)
          (again_then (number_piece w low high 6 n ∷ []) (group_pieces between xs v ++ (section_piece xs m (groups_end fs xs n (Ok m)) ∷ [])) a k e f
          (again_then (group_pieces between xs v) (section_piece xs m (groups_end fs xs n (Ok m)) ∷ []) k m e g
          (section_again (λ ys c. groups_end fs ys n c) (groups_local fs n) m e g.inside r)))

  optional_again : (b : Bool) (set : List ℕ) (a e : ℕ) → a ≤ length xs → (optional set xs (Ok a)).next ≡ Ok e → (let o = optional set xs (Ok a) in Again (old_pieces set xs o.letter o.start) a e)
  unfolding optional
  optional_again b set a e l =
      letter_cases set xs a
      (λ (k : Taken ℕ).
      let o = cond {A = Optional} (eqb k.value 0) (record { letter = 0; start = 0; next = Ok a }) (record { letter = k.value; start = position_of k.next; next = tuple_end xs k.next }) in
      o.next ≡ Ok e → Again (old_pieces set xs o.letter o.start) a e)
      (λ k q. nothing q) (λ h i. go h i (eqb (get_or xs a 0) 0) refl)
    where
      nothing : ◌≡◌ {A = Cursor} (Ok a) (Ok e) → Again [] a e
      nothing q = let p : a ≡ e = cc in subst (Again [] a) p (again_none a l)

      go :
          a < length xs → member set (get_or xs a 0) ≡ true → (t : Bool) → eqb (get_or xs a 0) 0 ≡ t
          → (let o = cond {A = Optional} t (record { letter = 0; start = 0; next = Ok a }) (record { letter = get_or xs a 0; start = a + 1; next = tuple_end xs (Ok (a + 1)) }) in
          o.next ≡ Ok e → Again (old_pieces set xs o.letter o.start) a e)
      go h i true f q = nothing q
      go h i false f q =
          let k = get_or xs a 0 in
          rw f
          (again_then (letter_piece set k ∷ []) (tuple_piece xs (a + 1) ∷ []) a (a + 1) e (byte_again a k (tested (member set k) 1 4) (rw i) h refl (a + 1) refl)
          (section_again tuple_end tuple_local (a + 1) e (omega arith) q))

  part_again : (b : Bool) (p : Part) (a e : ℕ) → a ≤ length xs → (read_part b p xs (Ok a)).next ≡ Ok e → Again (part_pieces b p xs (read_part b p xs (Ok a)).values) a e
  unfolding xid_field
  part_again b (one f) a e l q = field_again f a e l q
  part_again true block_xid a e l q = number_again 4 1 most32 4 a e q
  part_again false block_xid a e l q =
      let p : a ≡ e = cc in
      let z : e - a ≡ 0 = omega arith in
      again_one (xid_piece false 0) a 0 e refl (omega arith) (omega arith) (rw z)
  part_again b (groups w low high between fs) a e l q = groups_again b w low high between fs a e q
  part_again b tuple a e l q = section_again tuple_end tuple_local a e l q
  part_again b (optional_tuple set) a e l q = optional_again b set a e l q

  pub layout_again : (b : Bool) (ps : List Part) (a e : ℕ) → a ≤ length xs → (read_fields b ps xs (Ok a)).next ≡ Ok e → Again (layout_pieces b ps xs (read_fields b ps xs (Ok a)).parts) a e
  layout_again b [] a e l q = let p : a ≡ e = cc in subst (Again [] a) p (again_none a l)
  layout_again b (p ∷ ps) a e l q =
      let c = (read_part b p xs (Ok a)).next in
      let m = through (λ (d : Cursor). (read_fields b ps xs d).next) (fields_stay b xs ps) c e q in
      let f = part_again b p a m.0 l m.1 in
      again_then (part_pieces b p xs (read_part b p xs (Ok a)).values) (layout_pieces b ps xs (read_fields b ps xs c).parts) a m.0 e f
      (subst (λ (c : Cursor). Again (layout_pieces b ps xs (read_fields b ps xs c).parts) m.0 e) (sym m.1) (layout_again b ps m.0 e f.inside m.2))
