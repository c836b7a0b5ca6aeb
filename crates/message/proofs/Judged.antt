-- Pieces that were judged good: each has the length that its judgement says. Assumes nothing.
use Prim.Native.Nat.{ℕ, zero, suc, ◌+◌, ◌-◌, ◌/◌, ◌%◌, ◌≤◌}
use mathlib.Core.List.{List, [], ◌∷◌, ◌++◌, append_assoc}
use mathlib.Core.Bool.{Bool, true, false, not, cond}
use Rattle.std.specs.Prelude.{Option, Some, Ok, Err}
use mathlib.Core.Path.{◌≡◌, refl, ◌∙◌, ap}
use native.Mathlib.Omega.{arith}
use borrow.Author.Tests.{leb-true}
use lib.ListN.{length, get_or, take, drop, length-drop, length-append}
use lib.Seq.{length-take-le}
use lib.Dec.{eqb, leb}
use Rattle.wire.specs.Cursors.{Cursor, refuse}
use Rattle.wire.specs.Numbers.{most32}
use Rattle.wire.specs.Fields.{in_range, member}
use Rattle.wire.proofs.There.{no}
use Rattle.message.specs.declared.Version.{Version}
use Rattle.message.specs.declared.Message.{Message}
use Rattle.message.specs.Layout.{Field, Part, number, constant, letter, text, value, column, one, block_xid, groups, tuple, optional_tuple, has_value, column_letters, groups_end, tuple_end}
use Rattle.message.specs.Kinds.{layout, Kind}
use Rattle.message.specs.Messages.{largest}
use Rattle.message.specs.Encode.{digits, cut, from_to, kind_of_message, parts_of}
use Rattle.message.specs.Write.{arity, arities}
use Rattle.message.specs.Pieces.{Piece, placed, step, steps, bytes_of, tested, number_piece, letter_piece, byte_piece, length_piece, text_piece, text_judgement, content_piece, section_piece, value_pieces, xid_piece, tuple_piece, field_pieces, group_pieces, part_pieces, layout_pieces, message_pieces, opened, message_end}
use Rattle.message.proofs.Local.{Local, through, groups_local, tuple_local}
use Rattle.message.specs.Versions.{version_allows, version_has}

-- THE JUDGEMENTS

pub length_digits : (w v : ℕ) → length (digits w v) ≡ w
unfolding digits
length_digits zero v = refl
length_digits (suc k) v = length-append (digits k (v / 256)) (v % 256 ∷ []) ∙ let l : length (digits k (v / 256)) ≡ k = length_digits k (v / 256) in omega arith

pub length_cut : (src : List ℕ) (s n : ℕ) → n ≤ length src - s → length (cut src s n) ≡ n
length_cut src s n h = let l : n ≤ length (drop s src) = simp length-drop (omega arith) in length-take-le n (drop s src) l

-- a test that was good
pub test_good : (t : Bool) (w n k : ℕ) → tested t w n ≡ Ok k → (t ≡ true) × (w ≡ k)
test_good true w n k q = (refl, (cc))
test_good false w n k q = no refl q

pub text-good : (src : List ℕ) (s n k : ℕ) → text_judgement src s n ≡ Ok k → (s + n ≤ length src) × (member (cut src s n) 0 ≡ false) × (k ≡ n + 1)
text-good src s n k q = go (leb (s + n) (length src)) refl (member (cut src s n) 0) refl q
  where
    go : (t : Bool) → leb (s + n) (length src) ≡ t → (m : Bool) → member (cut src s n) 0 ≡ m → cond t (cond m (refuse 4 0) (Ok (n + 1))) (refuse 2 0) ≡ Ok k
        → (s + n ≤ length src) × (member (cut src s n) 0 ≡ false) × (k ≡ n + 1)
    go true f false g q = (leb-true (s + n) (length src) f, g, (cc))
    go true f true g q = no refl q
    go false f m g q = no refl q

placed-good : (at s : ℕ) (j : Cursor) (m : ℕ) → placed at s j ≡ Ok m → (k : ℕ) × (j ≡ Ok k) × (k - s ≤ largest) × (m ≡ at + (k - s)) × (m ≤ largest)
unfolding placed
placed-good at s (Ok k) m q = go (leb (at + (k - s)) largest) refl q
  where
    go : (t : Bool) → leb (at + (k - s)) largest ≡ t → cond t (Ok (at + (k - s))) (refuse 6 0) ≡ Ok m → (l : ℕ) × (◌≡◌ {A = Cursor} (Ok k) (Ok l)) × (l - s ≤ largest) × (m ≡ at + (l - s)) × (m ≤ largest)
    go true f q = let h : at + (k - s) ≤ largest = leb-true (at + (k - s)) largest f in let e : m ≡ at + (k - s) = cc in (k, refl, omega arith, e, omega arith)
    go false f q = no refl q
placed-good at s (Err r) m q = go (leb (at + (r.offset - s)) largest) q
  where
    go : (t : Bool) → cond {A = Cursor} t (refuse r.number (at + (r.offset - s))) (refuse 6 0) ≡ Ok m → (k : ℕ) × (◌≡◌ {A = Cursor} (Err r) (Ok k)) × (k - s ≤ largest) × (m ≡ at + (k - s)) × (m ≤ largest)
    go true q = no refl q
    go false q = no refl q

-- SOUND PIECES

-- a good piece has as many bytes as its judgement says
abbrev pub Sound : Piece → Type 0
Sound p = (k : ℕ) → p.judgement ≡ Ok k → length p.bytes ≡ k - p.start

abbrev pub AllSound : List Piece → Type 0
AllSound [] = Unit {0}
AllSound (p ∷ ps) = Sound p × AllSound ps

sound_append : (ps qs : List Piece) → AllSound ps → AllSound qs → AllSound (ps ++ qs)
sound_append [] qs s t = t
sound_append (p ∷ ps) qs s t = (s.0, sound_append ps qs s.1 t)

number_sound : (w low high n v : ℕ) → Sound (number_piece w low high n v)
number_sound w low high n v k q = let r = test_good (in_range low high v) w n k q in length_digits w v ∙ let e : w ≡ k = r.1 in omega arith

letter_sound : (set : List ℕ) (v : ℕ) → Sound (letter_piece set v)
letter_sound set v k q = let r = test_good (member set v) 1 4 k q in let e : 1 ≡ k = r.1 in omega arith

byte_sound : (b : ℕ) → Sound (byte_piece b)
byte_sound b k q = let e : 1 ≡ k = cc in omega arith

length_sound : (v : ℕ) → Sound (length_piece v)
length_sound v k q = let e : 4 ≡ k = cc in length_digits 4 v ∙ omega arith

xid_sound : (b : Bool) (v : ℕ) → Sound (xid_piece b v)
xid_sound true v k q = number_sound 4 1 most32 4 v k q
xid_sound false v k q = let r = test_good (eqb v 0) 0 4 k q in let e : 0 ≡ k = r.1 in omega arith

text_sound : (src : List ℕ) (s n : ℕ) → Sound (text_piece src s n)
text_sound src s n k q =
    let r = text-good src s n k q in
    let l : length (cut src s n) ≡ n = length_cut src s n (omega (arith, r.0)) in
    length-append (cut src s n) (0 ∷ []) ∙ omega (arith, r.2)

content_sound : (src : List ℕ) (s n : ℕ) → Sound (content_piece src s n)
content_sound src s n k q =
    let r = test_good (leb (s + n) (length src)) n 2 k q in
    let h : s + n ≤ length src = leb-true (s + n) (length src) r.0 in
    let e : n ≡ k = r.1 in
    length_cut src s n (omega arith) ∙ omega arith

section_sound : (F : List ℕ → Cursor → Cursor) (f : Local F) (src : List ℕ) (s : ℕ) → Sound (section_piece src s (F src (Ok s)))
section_sound F f src s k q = ap (λ (c : Cursor). length (from_to src s c)) q ∙ length_cut src s (k - s) (f.inside src s k q)

value_sound : (src : List ℕ) (s n : ℕ) → AllSound (value_pieces src s n)
value_sound src s n = (length_sound n, (content_sound src s n, tt))

pub field_sound : (f : Field) (src v : List ℕ) → AllSound (field_pieces f src v)
field_sound (number w low high) src v = (number_sound w low high 4 (get_or v 0 0), tt)
field_sound (constant k) src v = (byte_sound k, tt)
field_sound (letter set) src v = (letter_sound set (get_or v 0 0), tt)
field_sound text src v = (text_sound src (get_or v 0 0) (get_or v 1 0), tt)
field_sound value src v = value_sound src (get_or v 0 0) (get_or v 1 0)
field_sound column src v = (letter_sound column_letters (get_or v 0 0), go (has_value (get_or v 0 0)))
  where
    go : (t : Bool) → AllSound (cond t (value_pieces src (get_or v 1 0) (get_or v 2 0)) [])
    go true = value_sound src (get_or v 1 0) (get_or v 2 0)
    go false = tt

pub group_sound : (fs : List Field) (src v : List ℕ) → AllSound (group_pieces fs src v)
group_sound [] src v = tt
group_sound (f ∷ fs) src v = sound_append (field_pieces f src (take (arity f) v)) _ (field_sound f src (take (arity f) v)) (group_sound fs src (drop (arity f) v))

pub part_sound : (b : Bool) (p : Part) (src v : List ℕ) → AllSound (part_pieces b p src v)
part_sound b (one f) src v = field_sound f src v
part_sound b block_xid src v = (xid_sound b (get_or v 0 0), tt)
part_sound b (groups w low high between fs) src v = (
  number_sound w low high 6 (get_or v 0 0),
  sound_append (group_pieces between src (drop 1 v)) _ (group_sound between src (drop 1 v))
      (section_sound (λ xs c. groups_end fs xs (get_or v 0 0) c) (groups_local fs (get_or v 0 0)) src (get_or (drop 1 v) (arities between) 0), tt),
)
part_sound b tuple src v = (section_sound tuple_end tuple_local src (get_or v 0 0), tt)
part_sound b (optional_tuple set) src v = go (eqb (get_or v 0 0) 0)
  where
    go : (t : Bool) → AllSound (cond t [] (letter_piece set (get_or v 0 0) ∷ tuple_piece src (get_or v 1 0) ∷ []))
    go true = tt
    go false = (letter_sound set (get_or v 0 0), (section_sound tuple_end tuple_local src (get_or v 1 0), tt))

layout_sound : (b : Bool) (ps : List Part) (src : List ℕ) (vs : List (List ℕ)) → AllSound (layout_pieces b ps src vs)
layout_sound b [] src vs = tt
layout_sound b (p ∷ ps) src vs = sound_append (part_pieces b p src (get_or vs 0 [])) _ (part_sound b p src (get_or vs 0 [])) (layout_sound b ps src (drop 1 vs))

-- WHERE JUDGING ENDS

pub steps_stay : (ps : List Piece) (n o : ℕ) → steps ps (refuse n o) ≡ refuse n o
steps_stay [] n o = refl
steps_stay (p ∷ ps) n o = steps_stay ps n o

pub steps-append : (ps qs : List Piece) (c : Cursor) → steps (ps ++ qs) c ≡ steps qs (steps ps c)
steps-append [] qs c = refl
steps-append (p ∷ ps) qs c = steps-append ps qs (step p c)

pub bytes-append : (ps qs : List Piece) → bytes_of (ps ++ qs) ≡ bytes_of ps ++ bytes_of qs
bytes-append [] qs = refl
bytes-append (p ∷ ps) qs = rw (bytes-append ps qs, append_assoc p.bytes (bytes_of ps) (bytes_of qs))

pub steps_end : (ps : List Piece) (a e : ℕ) → AllSound ps → a ≤ largest → steps ps (Ok a) ≡ Ok e → (e ≡ a + length (bytes_of ps)) × (e ≤ largest)
steps_end [] a e s h q = let p : a ≡ e = cc in (omega arith, omega arith)
steps_end (p ∷ ps) a e s h q =
    let m = through (steps ps) (steps_stay ps) (step p (Ok a)) e q in
    let k = placed-good a p.start p.judgement m.0 m.1 in
    let l : length p.bytes ≡ k.0 - p.start = s.0 k.0 k.1 in
    let r = steps_end ps m.0 e s.1 k.4 m.2 in
    let t : length (p.bytes ++ bytes_of ps) ≡ length p.bytes + length (bytes_of ps) = length-append p.bytes (bytes_of ps) in
    (omega (arith, r.0, k.3), r.1)

opened-good : (v : Version) (b : Bool) (k : Option Kind) (n : ℕ) → opened v b k ≡ Ok n → (not (version_allows v b) ≡ false) × (not (version_has v k) ≡ false) × (n ≡ 1)
unfolding opened
opened-good v b k n q = go (not (version_allows v b)) (not (version_has v k)) q
  where
    go : (s t : Bool) → cond s (refuse 1 0) (cond t (refuse 3 0) (Ok 1)) ≡ Ok n → (s ≡ false) × (t ≡ false) × (n ≡ 1)
    go true t q = no refl q
    go false true q = no refl q
    go false false q = (refl, refl, (cc))

-- a message that is judged good
module _ (v : Version) (b : Bool) (m : Message) (src : List ℕ) (e : ℕ) (q : message_end v b m src ≡ Ok e) where
  abbrev fields : List Piece
  fields = layout_pieces b (layout (kind_of_message m)) src (parts_of m)

  -- its version and kind are, and its fields
  pub message-good : (not (version_allows v b) ≡ false) × (not (version_has v (Some (kind_of_message m))) ≡ false) × (steps fields (Ok 1) ≡ Ok e)
  message-good =
      let c = through (steps fields) (steps_stay fields) (opened v b (Some (kind_of_message m))) e q in
      let o = opened-good v b (Some (kind_of_message m)) c.0 c.1 in
      (o.0, o.1, rw o.2 at c.2)

  -- it ends at its length
  pub message_end_lem : (e ≡ length (bytes_of (message_pieces b m src))) × (e ≤ largest)
  message_end_lem =
      let s = steps_end fields 1 e (layout_sound b (layout (kind_of_message m)) src (parts_of m)) (omega arith) message-good.2 in
      (s.0 ∙ omega arith, s.1)

-- GOOD PIECES

-- a piece that is judged good, and is no longer than a message
abbrev pub Good : Piece → Type 0
Good p = (k : ℕ) × (p.judgement ≡ Ok k) × (k - p.start ≤ largest)

abbrev pub AllGood : List Piece → Type 0
AllGood [] = Unit {0}
AllGood (p ∷ ps) = Good p × AllGood ps

pub good-append : (ps qs : List Piece) → AllGood (ps ++ qs) → AllGood ps × AllGood qs
good-append [] qs g = (tt, g)
good-append (p ∷ ps) qs g = let r = good-append ps qs g.1 in ((g.0, r.0), r.1)

pub steps-good : (ps : List Piece) (a e : ℕ) → steps ps (Ok a) ≡ Ok e → AllGood ps
steps-good [] a e q = tt
steps-good (p ∷ ps) a e q =
    let m = through (steps ps) (steps_stay ps) (step p (Ok a)) e q in
    let k = placed-good a p.start p.judgement m.0 m.1 in
    ((k.0, k.1, k.2), steps-good ps m.0 e m.2)
