-- Both round trips of a message, from those of its layout. Assumes nothing.
use Prim.Native.Nat.{ℕ, ◌+◌, ◌-◌, ◌<◌, ◌≤◌}
use mathlib.Core.List.{List, [], ◌∷◌, append-nil}
use mathlib.Core.Bool.{Bool, false, not}
use Rattle.std.specs.Prelude.{Some, Ok, Err}
use mathlib.Core.Path.{◌≡◌, refl, sym, ◌∙◌, ap, subst}
use native.Mathlib.Omega.{arith}
use borrow.Author.Tests.{eq-eqb, ne_eqb, le-ltb}
use lib.ListN.{length, get_or, drop, length-drop}
use lib.Seq.{take_all, drop-cons}
use Rattle.wire.specs.Cursors.{Cursor}
use Rattle.wire.specs.Fields.{member}
use Rattle.message.specs.declared.Version.{Version}
use Rattle.message.specs.declared.Message.{Message}
use Rattle.message.specs.Layout.{read_fields}
use Rattle.message.specs.Kinds.{Kind, begin, commit, origin, relation, type, insert, update, delete, truncate, message, stream_start, stream_stop, stream_commit, stream_abort, letter_of, layout, kind_of}
use Rattle.message.specs.Versions.{version_allows, version_has}
use Rattle.message.specs.Messages.{largest, message_of, read_kind, read_message}
use Rattle.message.specs.Encode.{kind_of_message, parts_of}
use Rattle.message.specs.Write.{bytes, write_message}
use Rattle.message.specs.Pieces.{bytes_of, layout_pieces, message_pieces, outcome, opened, message_end, write_short}
use Rattle.message.specs.Same.{SameMessage}
use Rattle.message.proofs.Letters.{of_letter, letter_of_lem}
use Rattle.message.proofs.Accepted.{accepted}
use Rattle.message.proofs.Parts.{kind_back, parts_back}
use Rattle.message.proofs.Judged.{AllGood, steps-good, message-good, message_end_lem}
use Rattle.message.proofs.Short.{short}
use Rattle.message.proofs.Again.{Again, layout_again}
use Rattle.message.proofs.Says.{says}
use Rattle.message.proofs.Back.{Fine, layout_reads}

-- WRITE AFTER READ

-- the letter and the fields that were read are written as they stand
module _ (v : Version) (b : Bool) (xs : List ℕ) (small : (i : ℕ) → get_or xs i 0 < 256) (there : 1 ≤ length xs) (limit : length xs ≤ largest) where
  spelled :
      (m : Message) (k : Kind) (vs : List (List ℕ)) → kind_of_message m ≡ k → parts_of m ≡ vs → get_or xs 0 0 ≡ letter_of k → opened v b (Some k) ≡ Ok 1
      → Again xs small limit (layout_pieces b (layout k) xs vs) 1 (length xs) → write_short v b m xs ≡ bytes xs
  unfolding write_short
  spelled m k vs p q l o g =
      let n : length (drop 1 xs) ≤ length xs - 1 = simp length-drop (omega arith) in
      rw (p, q, o, g.accepted, g.spells, take_all (length xs - 1) (drop 1 xs) n, ← l) (ap bytes (sym (drop-cons xs 0 0 there)))

pub write_after_read :
    (v : Version) (b : Bool) (xs : List ℕ) → ((i : ℕ) → get_or xs i 0 < 256) → (m : Message)
    → read_message v b xs ≡ Ok m → write_message v b m xs ≡ bytes xs
unfolding opened
write_after_read v b xs small m q =
    let a = accepted v b xs m q in
    let k = a.kind in
    let r = read_fields b (layout k) xs (Ok 1) in
    let there : 1 ≤ length xs = omega (arith, a.there) in
    let p : kind_of_message m ≡ k = ap kind_of_message a.message ∙ kind_back k r.parts in
    short v b m xs
    ∙ spelled v b xs small there a.short m k r.parts p (ap parts_of a.message ∙ parts_back k b xs) (letter_of_lem (get_or xs 0 0) k a.letter)
    (rw (a.allowed, a.has))
    (layout_again xs small a.short b (layout k) 1 (length xs) there a.ends)

-- READ AFTER WRITE

fine : (k : Kind) → Fine (layout k)
unfolding member
fine begin = (refl, (refl, (refl, tt)))
fine commit = (refl, (refl, (refl, (refl, tt))))
fine origin = (refl, (tt, tt))
fine relation = (tt, (refl, (tt, (tt, (tt, ((refl, tt), tt))))))
fine type = (tt, (refl, (tt, (tt, tt))))
fine insert = (tt, (refl, (tt, (tt, tt))))
fine update = (tt, (refl, (refl, (tt, (tt, tt)))))
fine delete = (tt, (refl, (tt, (tt, tt))))
fine truncate = (tt, ((refl, (refl, tt)), tt))
fine message = (tt, (refl, (refl, (tt, (tt, tt)))))
fine stream_start = (refl, (refl, tt))
fine stream_stop = tt
fine stream_commit = (refl, (refl, (refl, (refl, (refl, tt)))))
fine stream_abort = (refl, (refl, tt))

came_out : (c : Cursor) (bs ys : List ℕ) → outcome c bs ≡ bytes ys → (e : ℕ) × (c ≡ Ok e) × (bs ≡ ys)
came_out (Ok e) bs ys q = (e, refl, (cc))
came_out (Err r) bs ys q = let z : ◌≡◌ {A = ℕ} 0 1 = cc in absurd (omega arith)

-- the message that the written bytes are read as
module _ (b : Bool) (m : Message) (src : List ℕ) (good : AllGood (layout_pieces b (layout (kind_of_message m)) src (parts_of m))) where
  abbrev k : Kind
  k = kind_of_message m

  abbrev fields : List ℕ
  fields = bytes_of (layout_pieces b (layout k) src (parts_of m))

  abbrev ys : List ℕ
  ys = letter_of k ∷ fields

  abbrev parts : List (List ℕ)
  parts = (read_fields b (layout k) ys (Ok 1)).parts

  kind_read : (read_kind k b ys ≡ Ok (message_of k parts)) × SameMessage m src (message_of k parts) ys
  unfolding read_kind
  kind_read =
      let r = layout_reads b src ys (layout k) (parts_of m) 1 [] (fine k) good (record { at = omega arith; is = sym (append-nil fields) }) in
      let n : 1 + length fields ≡ length ys = omega arith in (
        rw (r.ends, eq-eqb (1 + length fields) (length ys) n),
        record {
          kind = kind_back k parts;
          says = says ys (message_of k parts) ∙ rw (kind_back k parts, parts_back k b ys) r.says ∙ sym (says src m);
        },
      )

by_kind :
    (v : Version) (b : Bool) (xs : List ℕ) (k : Kind) (m : Message) → not (version_allows v b) ≡ false → length xs ≤ largest → (length xs ≡ 0 → ⊥) → kind_of (get_or xs 0 0) ≡ Some k → not (version_has v (Some k)) ≡ false
    → read_kind k b xs ≡ Ok m → read_message v b xs ≡ Ok m
unfolding read_message
by_kind v b xs k m h l n e g q = rw (h, le-ltb largest (length xs) l, ne_eqb (length xs) 0 n, e, g) q

pub read_after_write :
    (v : Version) (b : Bool) (m : Message) (src ys : List ℕ) → write_message v b m src ≡ bytes ys
    → (m' : Message) × (read_message v b ys ≡ Ok m') × SameMessage m src m' ys
unfolding write_short
read_after_write v b m src ys q =
    let k = kind_of_message m in
    let p = came_out (message_end v b m src) (bytes_of (message_pieces b m src)) ys (sym (short v b m src) ∙ q) in
    let g = message-good v b m src p.0 p.1 in
    let end = message_end_lem v b m src p.0 p.1 in
    let good = steps-good (layout_pieces b (layout k) src (parts_of m)) 1 p.0 g.2 in
    let r = kind_read b m src good in
    let l : length (bytes_of (message_pieces b m src)) ≤ largest = omega (arith, end.0, end.1) in
    subst (λ (ys : List ℕ). (m' : Message) × (read_message v b ys ≡ Ok m') × SameMessage m src m' ys) p.2
    (message_of k (parts b m src good), by_kind v b (bytes_of (message_pieces b m src)) k _ g.0 l (λ e. omega arith) (of_letter k) g.1 r.0, r.1)
