-- For contracts only. Storing where there is room: the output, and where storing stands in it.
use Rattle.std.specs.Prelude.{ℕ, ◌+◌, List, [], ◌∷◌, ◌++◌, cond, ◌≡◌, length, drop, leb, Ok, Err}
use Rattle.std.proofs.lemmas.List.Edits.{sets}
use Rattle.wire.specs.Cursors.{Cursor, refuse}
use Rattle.message.specs.declared.OldTuple.{OldTuple}
use Rattle.message.specs.declared.OldTuple.TheVariants.{Nothing, Key, Full}
use Rattle.message.specs.Layout.{tuple_end}
use Rattle.message.specs.Encode.{from_to}
use Rattle.message.specs.Pieces.{advanced}
use Rattle.writer.specs.declared.laying.Pen.{Pen}

-- an end that the output has no room for
abbrev pub room_for : ℕ → Cursor → Cursor
room_for room (Ok n) = cond (leb n room) (Ok n) (refuse 13 0)
room_for room (Err r) = Err r

pub record Spot : Type 0 where
  pub out : List ℕ
  pub at : ℕ

abbrev pub spot : List ℕ → ℕ → Spot
spot out at = record { out = out; at = at }

unfoldable pub put : List ℕ → Spot → Spot
put bs s = spot (sets s.out s.at bs) (s.at + length bs)

-- where a pen stands
abbrev pub stands : Pen → Spot
stands p = spot p.out.now p.at

-- bs are laid where a pen stood
pub record Lays (bs : List ℕ) (before after : Pen) : Type 0 where
  pub same_length : length after.out.now ≡ length before.out.now
  pub laid : stands after ≡ put bs (stands before)
  pub at : after.at ≡ before.at + length bs

-- bs lies at the front of an output whose rest is as it was
abbrev pub Stored : List ℕ → List ℕ → List ℕ → Type 0
Stored bs out out' = out' ≡ bs ++ drop (length bs) out

-- AN UPDATE'S OLD TUPLE

abbrev pub old_end : List ℕ → OldTuple → Cursor
old_end src Nothing = Ok 0
old_end src (Key start) = tuple_end src (Ok start)
old_end src (Full start) = tuple_end src (Ok start)

abbrev pub old_advanced : OldTuple → Cursor → Cursor → Cursor
old_advanced Nothing end c = c
old_advanced (Key start) end c = advanced start end (advanced 0 (Ok 1) c)
old_advanced (Full start) end c = advanced start end (advanced 0 (Ok 1) c)

abbrev pub old_bytes : List ℕ → OldTuple → Cursor → List ℕ
old_bytes src Nothing end = []
old_bytes src (Key start) end = 0x4B ∷ from_to src start end
old_bytes src (Full start) end = 0x4F ∷ from_to src start end
