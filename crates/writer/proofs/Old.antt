-- An Update's old tuple, or nothing, among the pieces of an Update. Assumes nothing.
use Prim.Native.Nat.{ℕ, ◌+◌, ◌≤◌}
use mathlib.Core.List.{List, [], ◌∷◌, ◌++◌}
use mathlib.Core.Bool.{Bool}
use mathlib.Core.Path.{◌≡◌, refl, sym, ◌∙◌, ap}
use native.Mathlib.Omega.{arith}
use lib.ListN.{length, get_or}
use Rattle.wire.specs.Cursors.{Cursor}
use Rattle.std.specs.Prelude.{Ok}
use Rattle.wire.specs.Fields.{member}
use Rattle.message.specs.declared.OldTuple.{OldTuple}
use Rattle.message.specs.declared.OldTuple.TheVariants.{Nothing, Key, Full}
use Rattle.message.specs.declared.Update.{Update}
use Rattle.message.specs.declared.Message.TheVariants as a
use Rattle.message.specs.Layout.{tuple_end}
use Rattle.message.specs.Kinds.{key_or_old}
use Rattle.message.specs.Encode.{digits, from_to, old_numbers}
use Rattle.message.specs.Pieces.{Piece, steps, bytes_of, message_pieces, byte_piece, tuple_piece, old_pieces, xid_bytes}
use Rattle.message.proofs.Judged.{steps-append}
use Rattle.writer.specs.declared.laying.Pen.{Pen}
use Rattle.writer.specs.Store.{Spot, spot, put, stands, Stored, old_end, old_advanced, old_bytes}
use Rattle.writer.proofs.Stores.{put_both, puts, puts_append, stored_by}

module _ (src : List ℕ) where
  abbrev old_of : OldTuple → List Piece
  old_of o = old_pieces key_or_old src (get_or (old_numbers o) 0 0) (get_or (old_numbers o) 1 0)

  -- with the pieces behind it
  pub old-steps : (o : OldTuple) {e : Cursor} → e ≡ old_end src o → (c : Cursor) (qs : List Piece) → steps qs (old_advanced o e c) ≡ steps (old_of o ++ qs) c
  unfolding member
  old-steps o {e} q c qs = ap (steps qs) (go o q) ∙ sym (steps-append (old_of o) qs c)
    where
      go : (o : OldTuple) → e ≡ old_end src o → old_advanced o e c ≡ steps (old_of o) c
      go Nothing q = refl
      go (Key start) q = rw q
      go (Full start) q = rw q

  old_puts : (o : OldTuple) {e : Cursor} → e ≡ old_end src o → (s : Spot) → put (old_bytes src o e) s ≡ puts (old_of o) s
  unfolding put
  old_puts Nothing q s = let z : s.at + 0 ≡ s.at = omega arith in rw z
  old_puts (Key start) q s = rw q (sym (put_both (0x4B ∷ []) (from_to src start (tuple_end src (Ok start))) s refl refl))
  old_puts (Full start) q s = rw q (sym (put_both (0x4F ∷ []) (from_to src start (tuple_end src (Ok start))) s refl refl))

module _ (b : Bool) (m : Update) (src : List ℕ) where
  abbrev behind : List Piece
  behind = byte_piece 0x4E ∷ tuple_piece src m.tuple ∷ []

  pub update_stored :
      (out : List ℕ) {o : List ℕ} (p : Pen) → length (bytes_of (message_pieces b (a.Update m) src)) ≤ length out → {e : Cursor} → e ≡ old_end src m.old → o ≡ p.out.now
      → stands p ≡ puts behind (put (old_bytes src m.old e) (put (digits 4 m.relation) (put (xid_bytes b m.xid) (put (0x55 ∷ []) (spot out 0)))))
      → Stored (bytes_of (message_pieces b (a.Update m) src)) out o
  update_stored out p h q f e =
      let s = put (digits 4 m.relation) (put (xid_bytes b m.xid) (put (0x55 ∷ []) (spot out 0))) in
      stored_by (message_pieces b (a.Update m) src) out p h f
      (e ∙ ap (puts behind) (old_puts src m.old q s) ∙ sym (puts_append (old_of src m.old) behind s))
