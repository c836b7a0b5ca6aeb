-- The shorter form of writing gives what the definition gives: testing the length after every field of what lies in the source in its
-- layout is the same as testing where its judgement ends. Assumes nothing.
use Prim.Native.Nat.{ℕ, zero, suc, ◌+◌, ◌-◌, ◌<◌, ◌≤◌}
use mathlib.Core.List.{List, [], ◌∷◌, ◌++◌, append_assoc, append-nil}
use mathlib.Core.Bool.{Bool, true, false, not, cond}
use mathlib.Core.Path.{◌≡◌, refl, sym, ◌∙◌, ap}
use mathlib.Core.Logic.{◌⊎◌, inl, inr}
use Rattle.std.specs.Prelude.{Some, Ok, Err}
use native.Mathlib.Omega.{arith}
use borrow.Author.Tests.{le-leb, lt-leb, leb-true, leb-false}
use lib.ListN.{length, get_or, take, drop, length-append}
use lib.Seq.{take-add, drop-drop}
use lib.Dec.{eqb, leb}
use Rattle.wire.specs.Cursors.{Cursor, refuse}
use Rattle.wire.specs.Numbers.{most32}
use Rattle.wire.specs.Fields.{in_range, member, number_field, letter_field, text_field, bytes_field, value_field}
use Rattle.wire.proofs.There.{number_off, letter_off, text_off, bytes_off}
use Rattle.message.specs.declared.Version.{Version}
use Rattle.message.specs.declared.Message.{Message}
use Rattle.message.specs.Layout.{Field, Part, number, constant, letter, text, value, column, one, block_xid, groups, tuple, optional_tuple, column_letters, has_value, column_end, most_columns, read_field, groups_end, tuple_end}
use Rattle.message.specs.Kinds.{letter_of, layout}
use Rattle.message.specs.Versions.{version_allows, version_has}
use Rattle.message.specs.Messages.{largest}
use Rattle.message.specs.Encode.{digits, cut, from_to, kind_of_message, parts_of}
use Rattle.message.specs.Write.{Writing, bytes, refused, so_far, good, bad, Copy, copy, copied, copy_value, copy_column, copy_field, copy_group, copy_groups, copy_tuple, write_number, write_letter, write_text, write_bytes, write_value, write_field, write_group, write_part, write_fields, write_message, arity, arities}
use Rattle.message.specs.Pieces.{Piece, placed, steps, bytes_of, piece, tested, number_piece, letter_piece, length_piece, text_piece, content_piece, section_piece, value_pieces, xid_piece, tuple_piece, field_pieces, group_pieces, part_pieces, layout_pieces, outcome, write_short, opened}
use Rattle.message.proofs.Local.{Local, local_none, local_then, group_end, number_local, letter_local, text_local, bytes_local, value_local, column_local, tuple_local}
use Rattle.message.proofs.Judged.{length_digits, length_cut, AllSound, steps_stay, steps-append, bytes-append, steps_end, field_sound, group_sound, part_sound}

-- ONE PIECE AFTER ANOTHER

-- a way of writing gives what pieces give
pub record Lays (G : Writing → Writing) (ps : List Piece) : Type 0 where
  pub stays : (n o : ℕ) → G (refused n o) ≡ refused n o
  pub lays : (bs : List ℕ) → length bs ≤ largest → G (bytes bs) ≡ outcome (steps ps (Ok (length bs))) (bs ++ bytes_of ps)

lays_none : Lays (λ d. d) []
lays_none = record { stays = λ n o. refl; lays = λ bs h. ap bytes (sym (append-nil bs)) }

lays_then : (G H : Writing → Writing) (ps qs : List Piece) → AllSound ps → Lays G ps → Lays H qs → Lays (λ d. H (G d)) (ps ++ qs)
lays_then G H ps qs sound g h =
    record {
      stays = λ n o. ap H (g.stays n o) ∙ h.stays n o;
      lays = λ bs l. go bs l (steps ps (Ok (length bs))) refl;
    }
  where
    go : (bs : List ℕ) → length bs ≤ largest → (c : Cursor) → steps ps (Ok (length bs)) ≡ c → H (G (bytes bs)) ≡ outcome (steps (ps ++ qs) (Ok (length bs))) (bs ++ bytes_of (ps ++ qs))
    go bs l (Ok e) q =
        let s = steps_end ps (length bs) e sound l q in
        let n : length (bs ++ bytes_of ps) ≡ e = length-append bs (bytes_of ps) ∙ sym s.0 in
        let k : length (bs ++ bytes_of ps) ≤ largest = omega (arith, s.1) in
        let first : G (bytes bs) ≡ bytes (bs ++ bytes_of ps) = g.lays bs l ∙ rw q in
        ap H first ∙ h.lays (bs ++ bytes_of ps) k
        ∙ rw (n, steps-append ps qs (Ok (length bs)), q, bytes-append ps qs, append_assoc bs (bytes_of ps) (bytes_of qs))
    go bs l (Err r) q =
        let first : G (bytes bs) ≡ refused r.number r.offset = g.lays bs l ∙ rw q in
        ap H first ∙ h.stays r.number r.offset ∙ rw (steps-append ps qs (Ok (length bs)), q, steps_stay qs r.number r.offset)

module _ (field : List ℕ) (k : ℕ) (size : length field ≡ k) where
  good_lays : Lays (good field) (piece field (Ok k) ∷ [])
  unfolding placed
  good_lays =
      record {
        stays = λ n o. refl;
        lays = λ bs h.
            let l : length (bs ++ field) ≡ length bs + (k - 0) = length-append bs field ∙ omega arith in
            rw (l, append-nil field) (go bs (leb (length bs + (k - 0)) largest));
      }
    where
      go : (bs : List ℕ) (t : Bool) → cond t (bytes (bs ++ field)) (refused 6 0) ≡ outcome (cond t (Ok (length bs + (k - 0))) (refuse 6 0)) (bs ++ field)
      go bs true = refl
      go bs false = refl

bad_lays : (field : List ℕ) (n : ℕ) → Lays (bad n) (piece field (refuse n 0) ∷ [])
unfolding placed
bad_lays field n =
    record {
      stays = λ m o. refl;
      lays = λ bs h. let z : length bs + (0 - 0) ≡ length bs = omega arith in rw (z, le-leb (length bs) largest h);
    }

module _ (field : List ℕ) (k n : ℕ) (t : Bool) (size : t ≡ true → length field ≡ k) where
  test_lays : Lays (λ d. cond t (good field d) (bad n d)) (piece field (tested t k n) ∷ [])
  test_lays = go t size
    where
      go : (s : Bool) → (s ≡ true → length field ≡ k) → Lays (λ d. cond s (good field d) (bad n d)) (piece field (tested s k n) ∷ [])
      go true h = good_lays field k (h refl)
      go false h = bad_lays field n

number_lays : (w low high n v : ℕ) → Lays (write_number w low high n v) (number_piece w low high n v ∷ [])
number_lays w low high n v = test_lays (digits w v) w n (in_range low high v) (λ e. length_digits w v)

letter_lays : (set : List ℕ) (v : ℕ) → Lays (write_letter set v) (letter_piece set v ∷ [])
letter_lays set v = test_lays (v ∷ []) 1 4 (member set v) (λ e. refl)

module _ (src : List ℕ) (s n : ℕ) where
  text_lays : Lays (write_text src s n) (text_piece src s n ∷ [])
  text_lays = go (leb (s + n) (length src)) refl (member (cut src s n) 0)
    where
      go :
          (t : Bool) → leb (s + n) (length src) ≡ t → (m : Bool)
          → Lays (λ d. cond t (cond m (bad 4 d) (good (cut src s n ++ (0 ∷ [])) d)) (bad 2 d)) (piece (cut src s n ++ (0 ∷ [])) (cond t (cond m (refuse 4 0) (Ok (n + 1))) (refuse 2 0)) ∷ [])
      go true e true = bad_lays (cut src s n ++ (0 ∷ [])) 4
      go true e false =
          let l : s + n ≤ length src = leb-true (s + n) (length src) e in
          let k : length (cut src s n) ≡ n = length_cut src s n (omega arith) in
          good_lays (cut src s n ++ (0 ∷ [])) (n + 1) (length-append (cut src s n) (0 ∷ []) ∙ omega arith)
      go false e m = bad_lays (cut src s n ++ (0 ∷ [])) 2

  content_lays : Lays (write_bytes src s n) (content_piece src s n ∷ [])
  content_lays =
      test_lays (cut src s n) n 2 (leb (s + n) (length src))
      (λ e. let l : s + n ≤ length src = leb-true (s + n) (length src) e in length_cut src s n (omega arith))

xid_lays : (b : Bool) (v : ℕ) → Lays (λ d. cond b (write_number 4 1 most32 4 v d) (cond (eqb v 0) d (bad 4 d))) (xid_piece b v ∷ [])
unfolding placed
xid_lays true v = number_lays 4 1 most32 4 v
xid_lays false v = go (eqb v 0)
  where
    go : (t : Bool) → Lays (λ d. cond t d (bad 4 d)) (piece [] (tested t 0 4) ∷ [])
    go true =
        record {
          stays = λ n o. refl;
          lays = λ bs h. let z : length bs + (0 - 0) ≡ length bs = omega arith in rw (z, le-leb (length bs) largest h, append-nil bs);
        }
    go false = bad_lays [] 4

-- WHAT LIES IN THE SOURCE

-- what is written after bs where reading from s got to a cursor
abbrev Shown : List ℕ → ℕ → List ℕ → Cursor → Writing
Shown src s bs (Ok e) = so_far (bs ++ cut src s (e - s))
Shown src s bs (Err r) = cond (leb (length bs + (r.offset - s)) largest) (refused r.number (length bs + (r.offset - s))) (refused 6 0)

-- copying keeps step with reading: both stand at one place, or copying has refused as reading on will show
abbrev On : List ℕ → ℕ → List ℕ → ℕ → Type 0
On src s bs e = (s ≤ e) × (e - s ≤ length src - s) × (length bs + (e - s) ≤ largest)

pub record Standing (src : List ℕ) (s : ℕ) (bs : List ℕ) (c : Cursor) (d : Copy) : Type 0 where
  pub place : ℕ
  pub on : On src s bs place
  pub reads : c ≡ Ok place
  pub copies : d ≡ copy place (bytes (bs ++ cut src s (place - s)))

pub record Stopped (src : List ℕ) (s : ℕ) (bs : List ℕ) (c : Cursor) (d : Copy) : Type 0 where
  pub n : ℕ
  pub o : ℕ
  pub copies : d.to ≡ refused n o
  pub reads : (F : List ℕ → Cursor → Cursor) → Local F → Shown src s bs (F src c) ≡ refused n o

abbrev InStep : List ℕ → ℕ → List ℕ → Cursor → Copy → Type 0
InStep src s bs c d = Standing src s bs c d ⊎ Stopped src s bs c d

pub record Follows (F : List ℕ → Cursor → Cursor) (G : List ℕ → Copy → Copy) : Type 0 where
  pub local : Local F
  pub keeps : (src : List ℕ) (d : Copy) (n o : ℕ) → d.to ≡ refused n o → (G src d).to ≡ refused n o
  pub goes : (src : List ℕ) (s : ℕ) (bs : List ℕ) (e : ℕ) → On src s bs e → InStep src s bs (F src (Ok e)) (G src (copy e (bytes (bs ++ cut src s (e - s)))))

follows_none : Follows (λ src c. c) (λ src d. d)
follows_none = record { local = local_none; keeps = λ src d n o q. q; goes = λ src s bs e h. inl (record { place = e; on = h; reads = refl; copies = refl }) }

follows_then : (F H : List ℕ → Cursor → Cursor) (G I : List ℕ → Copy → Copy) → Follows F G → Follows H I → Follows (λ src c. H src (F src c)) (λ src d. I src (G src d))
follows_then F H G I f h =
    record {
      local = local_then F H f.local h.local;
      keeps = λ src d n o q. h.keeps src (G src d) n o (f.keeps src d n o q);
      goes = λ src s bs e k. go src s bs (F src (Ok e)) (G src (copy e (bytes (bs ++ cut src s (e - s))))) (f.goes src s bs e k);
    }
  where
    go : (src : List ℕ) (s : ℕ) (bs : List ℕ) (c : Cursor) (d : Copy) → InStep src s bs c d → InStep src s bs (H src c) (I src d)
    go src s bs c d (inl r) = rw (r.reads, r.copies) (h.goes src s bs r.place r.on)
    go src s bs c d (inr r) =
        inr (record { n = r.n; o = r.o; copies = h.keeps src d r.n r.o r.copies; reads = λ K k. r.reads (λ xs c. K xs (H xs c)) (local_then H K h.local k) })

copied-keeps : (src : List ℕ) (c : Cursor) (d : Copy) (n o : ℕ) → d.to ≡ refused n o → (copied src c d).to ≡ refused n o
copied-keeps src (Ok e) d n o q = rw q
copied-keeps src (Err r) d n o q = rw q

-- a part of the source and the part behind it
joined : (src : List ℕ) (s m e : ℕ) → s ≤ m → m ≤ e → cut src s (m - s) ++ cut src m (e - m) ≡ cut src s (e - s)
joined src s m e h k =
    let i : e - s ≡ (m - s) + (e - m) = omega arith in
    let j : s + (m - s) ≡ m = omega arith in
    rw (i, take-add (m - s) (e - m) (drop s src), drop-drop, j)

-- reading on from past the largest message shows that it is too long
past : (src : List ℕ) (s : ℕ) (bs : List ℕ) (m : ℕ) → s ≤ m → m - s ≤ length src - s → largest < length bs + (m - s) → (F : List ℕ → Cursor → Cursor) → Local F → Shown src s bs (F src (Ok m)) ≡ refused 6 0
past src s bs m h i l F f = go (F src (Ok m)) refl
  where
    go : (c : Cursor) → F src (Ok m) ≡ c → Shown src s bs c ≡ refused 6 0
    go (Ok e) q =
        let k : length (cut src s (e - s)) ≡ e - s = length_cut src s (e - s) (omega (arith, f.ahead src m e q, f.inside src m e q)) in
        let g : largest < length (bs ++ cut src s (e - s)) = omega (arith, f.ahead src m e q, length-append bs (cut src s (e - s))) in
        rw (lt-leb (length (bs ++ cut src s (e - s))) largest g)
    go (Err r) q = let g : largest < length bs + (r.offset - s) = omega (arith, f.late src m r.number r.offset q) in rw (lt-leb (length bs + (r.offset - s)) largest g)

-- a field that is read, and what goes on from its value
module _
    (value : List ℕ → Cursor → ℕ) (next : List ℕ → Cursor → Cursor) (local : Local next) (off : (xs : List ℕ) (a n o : ℕ) → next xs (Ok a) ≡ refuse n o → o ≡ a)
    (F : ℕ → List ℕ → Cursor → Cursor) (G : ℕ → List ℕ → Copy → Copy) (follows : (v : ℕ) → Follows (F v) (G v))
  where
    follows_by : Local (λ xs c. F (value xs c) xs (next xs c)) → Follows (λ xs c. F (value xs c) xs (next xs c)) (λ xs d. G (value xs (Ok d.from)) xs (copied xs (next xs (Ok d.from)) d))
    follows_by whole =
        record {
          local = whole;
          keeps = λ src d n o q.
              (follows (value src (Ok d.from))).keeps src (copied src (next src (Ok d.from)) d) n o (copied-keeps src (next src (Ok d.from)) d n o q);
          goes = λ src s bs e h. go src s bs e h (value src (Ok e)) (next src (Ok e)) refl;
        }
      where
        go :
            (src : List ℕ) (s : ℕ) (bs : List ℕ) (e : ℕ) → On src s bs e → (v : ℕ) (c : Cursor) → next src (Ok e) ≡ c
            → InStep src s bs (F v src c) (G v src (copied src c (copy e (bytes (bs ++ cut src s (e - s))))))
        go src s bs e h v (Ok m) q =
            let a : e ≤ m = local.ahead src e m q in
            let i : m - s ≤ length src - s = omega (arith, h.0, h.1, local.inside src e m q) in
            let k : length (cut src s (m - s)) ≡ m - s = length_cut src s (m - s) i in
            let l : length (bs ++ cut src s (m - s)) ≡ length bs + (m - s) = length-append bs (cut src s (m - s)) ∙ omega arith in
            rw (append_assoc bs (cut src s (e - s)) (cut src e (m - e)), joined src s e m h.0 a, l) (test m a i (leb (length bs + (m - s)) largest) refl)
          where
            test :
                (m : ℕ) → e ≤ m → m - s ≤ length src - s → (t : Bool) → leb (length bs + (m - s)) largest ≡ t
                → InStep src s bs (F v src (Ok m)) (G v src (copy m (cond t (bytes (bs ++ cut src s (m - s))) (refused 6 0))))
            test m a i true g = (follows v).goes src s bs m (omega (arith, h.0), i, leb-true (length bs + (m - s)) largest g)
            test m a i false g =
                inr (record {
                  n = 6;
                  o = 0;
                  copies = (follows v).keeps src (copy m (refused 6 0)) 6 0 refl;
                  reads = λ H l. past src s bs m (omega (arith, h.0)) i (leb-false (length bs + (m - s)) largest g) (λ xs c. H xs (F v xs c)) (local_then (F v) H (follows v).local l);
                })
        go src s bs e h v (Err r) q =
            let p : r.offset ≡ e = off src e r.number r.offset q in
            let k : length (cut src s (e - s)) ≡ e - s = length_cut src s (e - s) h.1 in
            let l : length (bs ++ cut src s (e - s)) ≡ length bs + (r.offset - s) = length-append bs (cut src s (e - s)) ∙ omega arith in
            let m : length bs + (r.offset - s) ≤ largest = omega (arith, h.2) in
            inr (record {
              n = r.number;
              o = length bs + (r.offset - s);
              copies = (follows v).keeps src (copy e (refused r.number (length (bs ++ cut src s (e - s))))) r.number (length bs + (r.offset - s)) (ap (refused r.number) l);
              reads = λ H l. ap (λ (c : Cursor). Shown src s bs (H src c)) ((follows v).local.stays src r.number r.offset) ∙ ap (Shown src s bs) (l.stays src r.number r.offset) ∙ rw (le-leb (length bs + (r.offset - s)) largest m);
            })

-- THE FIELDS OF A LAYOUT

number_follows : (w low high : ℕ) → Follows (λ xs c. (number_field w low high 4 xs c).next) (copy_field (number w low high))
number_follows w low high =
    follows_by (λ xs c. (number_field w low high 4 xs c).value) (λ xs c. (number_field w low high 4 xs c).next) (number_local w low high 4) (number_off w low high 4)
    (λ v xs c. c) (λ v xs d. d) (λ v. follows_none) (number_local w low high 4)

letter_follows : (set : List ℕ) → Follows (λ xs c. (letter_field set xs c).next) (copy_field (letter set))
letter_follows set =
    follows_by (λ xs c. (letter_field set xs c).value) (λ xs c. (letter_field set xs c).next) (letter_local set) (letter_off set)
    (λ v xs c. c) (λ v xs d. d) (λ v. follows_none) (letter_local set)

text_follows : Follows (λ xs c. (text_field xs c).next) (copy_field text)
text_follows =
    follows_by (λ xs c. 0) (λ xs c. (text_field xs c).next) text_local text_off (λ v xs c. c) (λ v xs d. d) (λ v. follows_none) text_local

bytes_follows : (n : ℕ) → Follows (λ xs c. (bytes_field n xs c).next) (λ xs d. copied xs (bytes_field n xs (Ok d.from)).next d)
bytes_follows n =
    follows_by (λ xs c. 0) (λ xs c. (bytes_field n xs c).next) (bytes_local n) (λ xs a. bytes_off xs a n) (λ v xs c. c) (λ v xs d. d) (λ v. follows_none) (bytes_local n)

value_follows : Follows (λ xs c. (value_field xs c).next) copy_value
unfolding value_field
value_follows =
    follows_by (λ xs c. (number_field 4 0 0x7FFFFFFF 4 xs c).value) (λ xs c. (number_field 4 0 0x7FFFFFFF 4 xs c).next) (number_local 4 0 0x7FFFFFFF 4) (number_off 4 0 0x7FFFFFFF 4)
    (λ n xs c. (bytes_field n xs c).next) (λ n xs d. copied xs (bytes_field n xs (Ok d.from)).next d) bytes_follows value_local

column_follows : Follows column_end copy_column
unfolding column_end
column_follows =
    follows_by (λ xs c. (letter_field column_letters xs c).value) (λ xs c. (letter_field column_letters xs c).next) (letter_local column_letters) (letter_off column_letters)
    (λ v xs c. cond (has_value v) (value_field xs c).next c) (λ v xs d. cond (has_value v) (copy_value xs d) d) (λ v. go (has_value v)) column_local
  where
    go : (t : Bool) → Follows (λ xs c. cond t (value_field xs c).next c) (λ xs d. cond t (copy_value xs d) d)
    go true = value_follows
    go false = follows_none

field_follows : (f : Field) → Follows (λ xs c. (read_field f xs c).next) (copy_field f)
field_follows (number w low high) = number_follows w low high
field_follows (constant k) = letter_follows (k ∷ [])
field_follows (letter set) = letter_follows set
field_follows text = text_follows
field_follows value = value_follows
field_follows column = column_follows

group_follows : (fs : List Field) → Follows (group_end fs) (copy_group fs)
group_follows [] = follows_none
group_follows (f ∷ fs) = follows_then (λ xs c. (read_field f xs c).next) (group_end fs) (copy_field f) (copy_group fs) (field_follows f) (group_follows fs)

groups_follow : (fs : List Field) (n : ℕ) → Follows (λ xs c. groups_end fs xs n c) (copy_groups n fs)
unfolding groups_end
groups_follow fs zero = follows_none
groups_follow fs (suc n) = follows_then (group_end fs) (λ xs c. groups_end fs xs n c) (copy_group fs) (copy_groups n fs) (group_follows fs) (groups_follow fs n)

tuple_follows : Follows tuple_end copy_tuple
unfolding tuple_end
tuple_follows =
    follows_by (λ xs c. (number_field 2 0 most_columns 6 xs c).value) (λ xs c. (number_field 2 0 most_columns 6 xs c).next) (number_local 2 0 most_columns 6) (number_off 2 0 most_columns 6)
    (λ n xs c. groups_end (column ∷ []) xs n c) (λ n xs d. copy_groups n (column ∷ []) xs d) (groups_follow (column ∷ [])) tuple_local

-- what lies in the source is one piece
section_lays : (F : List ℕ → Cursor → Cursor) (G : List ℕ → Copy → Copy) → Follows F G → (src : List ℕ) (s : ℕ) → Lays (λ d. (G src (copy s d)).to) (section_piece src s (F src (Ok s)) ∷ [])
unfolding placed
section_lays F G f src s =
    record {
      stays = λ n o. f.keeps src (copy s (refused n o)) n o refl;
      lays = λ bs h.
          let z : s - s ≡ 0 = omega arith in
          let e : bs ++ cut src s (s - s) ≡ bs = rw (z, append-nil bs) in
          let i : On src s bs s = (omega arith, omega arith, omega arith) in
          shown bs (F src (Ok s)) (G src (copy s (bytes bs))) (rw e at (f.goes src s bs s i)) ∙ same bs (F src (Ok s)) refl;
    }
  where
    shown : (bs : List ℕ) (c : Cursor) (d : Copy) → InStep src s bs c d → d.to ≡ Shown src s bs c
    shown bs c d (inl r) =
        let k : length (cut src s (r.place - s)) ≡ r.place - s = length_cut src s (r.place - s) r.on.1 in
        let l : length (bs ++ cut src s (r.place - s)) ≤ largest = omega (arith, length-append bs (cut src s (r.place - s)), r.on.2) in
        rw (r.copies, r.reads, le-leb (length (bs ++ cut src s (r.place - s))) largest l)
    shown bs c d (inr r) = r.copies ∙ sym (r.reads (λ xs c. c) local_none)

    same : (bs : List ℕ) (c : Cursor) → F src (Ok s) ≡ c → Shown src s bs c ≡ outcome (placed (length bs) s c) (bs ++ (from_to src s c ++ []))
    same bs (Ok e) q =
        let k : length (cut src s (e - s)) ≡ e - s = length_cut src s (e - s) (f.local.inside src s e q) in
        let l : length (bs ++ cut src s (e - s)) ≡ length bs + (e - s) = length-append bs (cut src s (e - s)) ∙ omega arith in
        rw (l, append-nil (cut src s (e - s))) (go (leb (length bs + (e - s)) largest))
      where
        go : (t : Bool) → cond t (bytes (bs ++ cut src s (e - s))) (refused 6 0) ≡ outcome (cond t (Ok (length bs + (e - s))) (refuse 6 0)) (bs ++ cut src s (e - s))
        go true = refl
        go false = refl
    same bs (Err r) q = go (leb (length bs + (r.offset - s)) largest)
      where
        go : (t : Bool) → cond t (refused r.number (length bs + (r.offset - s))) (refused 6 0) ≡ outcome (cond t (refuse r.number (length bs + (r.offset - s))) (refuse 6 0)) (bs ++ (from_to src s (Err r) ++ []))
        go true = refl
        go false = refl

-- THE LAYOUT

value_lays : (src : List ℕ) (s n : ℕ) → Lays (write_value src s n) (value_pieces src s n)
value_lays src s n =
    lays_then (good (digits 4 n)) (write_bytes src s n) (length_piece n ∷ []) (content_piece src s n ∷ [])
    ((field_sound value src (s ∷ n ∷ [])).0, tt) (good_lays (digits 4 n) 4 (length_digits 4 n)) (content_lays src s n)

field_lays : (f : Field) (src v : List ℕ) → Lays (write_field f src v) (field_pieces f src v)
field_lays (number w low high) src v = number_lays w low high 4 (get_or v 0 0)
field_lays (constant k) src v = good_lays (k ∷ []) 1 refl
field_lays (letter set) src v = letter_lays set (get_or v 0 0)
field_lays text src v = text_lays src (get_or v 0 0) (get_or v 1 0)
field_lays value src v = value_lays src (get_or v 0 0) (get_or v 1 0)
field_lays column src v = go (has_value (get_or v 0 0))
  where
    go :
        (t : Bool)
        → Lays (λ d. cond t (write_value src (get_or v 1 0) (get_or v 2 0) (write_letter column_letters (get_or v 0 0) d)) (write_letter column_letters (get_or v 0 0) d))
        (letter_piece column_letters (get_or v 0 0) ∷ cond t (value_pieces src (get_or v 1 0) (get_or v 2 0)) [])
    go true =
        lays_then (write_letter column_letters (get_or v 0 0)) (write_value src (get_or v 1 0) (get_or v 2 0)) (letter_piece column_letters (get_or v 0 0) ∷ []) (value_pieces src (get_or v 1 0) (get_or v 2 0))
        ((field_sound column src v).0, tt) (letter_lays column_letters (get_or v 0 0)) (value_lays src (get_or v 1 0) (get_or v 2 0))
    go false = letter_lays column_letters (get_or v 0 0)

group_lays : (fs : List Field) (src v : List ℕ) → Lays (write_group fs src v) (group_pieces fs src v)
group_lays [] src v = lays_none
group_lays (f ∷ fs) src v =
    lays_then (write_field f src (take (arity f) v)) (write_group fs src (drop (arity f) v)) (field_pieces f src (take (arity f) v)) (group_pieces fs src (drop (arity f) v))
    (field_sound f src (take (arity f) v)) (field_lays f src (take (arity f) v)) (group_lays fs src (drop (arity f) v))

part_lays : (b : Bool) (p : Part) (src v : List ℕ) → Lays (write_part b p src v) (part_pieces b p src v)
part_lays b (one f) src v = field_lays f src v
part_lays b block_xid src v = xid_lays b (get_or v 0 0)
part_lays b (groups w low high between fs) src v =
    let start = get_or (drop 1 v) (arities between) 0 in
    let n = get_or v 0 0 in
    lays_then (write_number w low high 6 n) (λ d. (copy_groups n fs src (copy start (write_group between src (drop 1 v) d))).to) (number_piece w low high 6 n ∷ [])
    (group_pieces between src (drop 1 v) ++ (section_piece src start (groups_end fs src n (Ok start)) ∷ []))
    ((part_sound b (groups w low high between fs) src v).0, tt) (number_lays w low high 6 n)
    (lays_then (write_group between src (drop 1 v)) (λ d. (copy_groups n fs src (copy start d)).to) (group_pieces between src (drop 1 v)) (section_piece src start (groups_end fs src n (Ok start)) ∷ [])
    (group_sound between src (drop 1 v)) (group_lays between src (drop 1 v)) (section_lays (λ xs c. groups_end fs xs n c) (copy_groups n fs) (groups_follow fs n) src start))
part_lays b tuple src v = section_lays tuple_end copy_tuple tuple_follows src (get_or v 0 0)
part_lays b (optional_tuple set) src v = go (eqb (get_or v 0 0) 0)
  where
    go : (t : Bool) → Lays (λ d. cond t d (copy_tuple src (copy (get_or v 1 0) (write_letter set (get_or v 0 0) d))).to) (cond t [] (letter_piece set (get_or v 0 0) ∷ tuple_piece src (get_or v 1 0) ∷ []))
    go true = lays_none
    go false =
        lays_then (write_letter set (get_or v 0 0)) (λ d. (copy_tuple src (copy (get_or v 1 0) d)).to) (letter_piece set (get_or v 0 0) ∷ []) (tuple_piece src (get_or v 1 0) ∷ [])
        ((field_sound (letter set) src v).0, tt) (letter_lays set (get_or v 0 0)) (section_lays tuple_end copy_tuple tuple_follows src (get_or v 1 0))

layout_lays : (b : Bool) (ps : List Part) (src : List ℕ) (vs : List (List ℕ)) → Lays (write_fields b ps src vs) (layout_pieces b ps src vs)
layout_lays b [] src vs = lays_none
layout_lays b (p ∷ ps) src vs =
    lays_then (write_part b p src (get_or vs 0 [])) (write_fields b ps src (drop 1 vs)) (part_pieces b p src (get_or vs 0 [])) (layout_pieces b ps src (drop 1 vs))
    (part_sound b p src (get_or vs 0 [])) (part_lays b p src (get_or vs 0 [])) (layout_lays b ps src (drop 1 vs))

-- LITERAL AND SHORT

-- version and kind, and then what the fields give
opened-first :
    (ps : List Piece) (bs : List ℕ) (s t : Bool)
    → cond s (refused 1 0) (cond t (refused 3 0) (outcome (steps ps (Ok 1)) bs)) ≡ outcome (steps ps (cond s (refuse 1 0) (cond t (refuse 3 0) (Ok 1)))) bs
opened-first ps bs true t = rw (steps_stay ps 1 0)
opened-first ps bs false true = rw (steps_stay ps 3 0)
opened-first ps bs false false = refl

pub short : (v : Version) (b : Bool) (m : Message) (src : List ℕ) → write_message v b m src ≡ write_short v b m src
unfolding write_message write_short opened
short v b m src =
    let k = kind_of_message m in
    rw ((layout_lays b (layout k) src (parts_of m)).lays (letter_of k ∷ []) (omega arith))
    (opened-first (layout_pieces b (layout k) src (parts_of m)) _ (not (version_allows v b)) (not (version_has v (Some k))))
