-- A message that was judged, and then refused or stored. Assumes nothing.
use Prim.Native.Nat.{ℕ, ◌≤◌, ◌<◌}
use mathlib.Core.List.{List, ◌++◌}
use mathlib.Core.Bool.{Bool, true, false, cond}
use mathlib.Core.Path.{◌≡◌, refl, sym, ◌∙◌, ap}
use native.Mathlib.Omega.{arith}
use borrow.Author.Tests.{le-leb, lt-leb, leb-true, leb-false}
use lib.ListN.{length, take, drop}
use lib.Seq.{take-append_seam}
use lib.Dec.{leb}
use Rattle.wire.specs.Cursors.{Cursor, refuse}
use Rattle.std.specs.Prelude.{Ok, Err}
use Rattle.wire.specs.declared.Refusal.{Refusal}
use Rattle.wire.proofs.There.{no}
use Rattle.message.specs.declared.Version.{Version}
use Rattle.message.specs.declared.Message.{Message}
use Rattle.message.specs.Write.{Writing, bytes, refused, write_message}
use Rattle.message.specs.Pieces.{bytes_of, message_pieces, outcome, message_end, write_short}
use Rattle.message.proofs.Judged.{message_end_lem}
use Rattle.message.proofs.Short.{short}
use Rattle.writer.specs.Answer.{answer_of, output_of, Settles}
use Rattle.writer.specs.Store.{room_for, Stored}

-- ONE KIND

module _ (v : Version) (b : Bool) (m : Message) (src out : List ℕ) {c d : Cursor} (judged : c ≡ message_end v b m src) (room : d ≡ room_for (length out) c) where
  abbrev bs : List ℕ
  bs = bytes_of (message_pieces b m src)

  fits : (c' : Cursor) {n : ℕ} → room_for (length out) c' ≡ Ok n → (c' ≡ Ok n) × (n ≤ length out)
  fits (Err r) q = no refl q
  fits (Ok e) {n} q = go (leb e (length out)) refl n q
    where
      go : (t : Bool) → leb e (length out) ≡ t → (n : ℕ) → ◌≡◌ {A = Cursor} (cond t (Ok e) (refuse 13 0)) (Ok n) → (◌≡◌ {A = Cursor} (Ok e) (Ok n)) × (n ≤ length out)
      go true f n q = let p : e ≡ n = cc in (q, omega (arith, leb-true e (length out) f))
      go false f n q = no refl q

  pub refused_whole : {why : Refusal} → d ≡ Err why → Settles (write_message v b m src) out (Err why) out
  unfolding write_short
  refused_whole {why} e =
      let s = go (message_end v b m src) refl (sym (room ∙ ap (room_for (length out)) judged) ∙ e) in
      rw (short v b m src) (record { answer = s.0; output = s.1 })
    where
      go : (c' : Cursor) → message_end v b m src ≡ c' → room_for (length out) c' ≡ Err why → (◌≡◌ {A = Cursor} (Err why) (answer_of (outcome c' bs) out)) × (out ≡ output_of (outcome c' bs) out)
      go (Err r) s q = (sym q, refl)
      go (Ok k) s q = test (leb k (length out)) refl q
        where
          test : (t : Bool) → leb k (length out) ≡ t → ◌≡◌ {A = Cursor} (cond t (Ok k) (refuse 13 0)) (Err why) → (◌≡◌ {A = Cursor} (Err why) (answer_of (outcome (Ok k) bs) out)) × (out ≡ output_of (outcome (Ok k) bs) out)
          test true f q = no q refl
          test false f q =
              let l : length out < length bs = omega (arith, leb-false k (length out) f, (message_end_lem v b m src k s).0) in
              rw (lt-leb (length bs) (length out) l) (sym q, refl)

  module _ {n : ℕ} (e : d ≡ Ok n) where
    good : message_end v b m src ≡ Ok n
    good = sym judged ∙ (fits c (sym room ∙ e)).0

    pub has_room : length bs ≤ length out
    has_room = omega (arith, (fits c (sym room ∙ e)).1, (message_end_lem v b m src n good).0)

    pub accept_as : {o : List ℕ} {k : ℕ} → k ≡ length bs → Stored bs out o → Settles (write_message v b m src) out (Ok k) o
    unfolding write_short
    accept_as p q =
        let l : leb (length bs) (length out) ≡ true = le-leb (length bs) (length out) has_room in
        rw (short v b m src) (record { answer = rw (good, l) (ap Ok p); output = rw (good, l) q })

    pub accepted : {o : List ℕ} → Stored bs out o → Settles (write_message v b m src) out (Ok n) o
    accepted q = accept_as (message_end_lem v b m src n good).0 q

-- AN ANSWER

-- a length that was answered is the length of the bytes that lie at the front of the output
pub wrote : (w : Writing) (out out' : List ℕ) (n : ℕ) → Settles w out (Ok n) out' → (ys : List ℕ) × (w ≡ bytes ys) × (take n out' ≡ ys)
wrote (refused k o) out out' n s = no s.answer refl
wrote (bytes ys) out out' n s = go (leb (length ys) (length out)) s.answer s.output
  where
    go :
        (t : Bool) → ◌≡◌ {A = Cursor} (Ok n) (cond t (Ok (length ys)) (refuse 13 0)) → out' ≡ cond t (ys ++ drop (length ys) out) out
        → (zs : List ℕ) × (bytes ys ≡ bytes zs) × (take n out' ≡ zs)
    go true a b = let i : n ≡ length ys = cc in (ys, refl, rw (i, b, take-append_seam ys (drop (length ys) out)))
    go false a b = no a refl
