-- The message that the numbers of a row make. Assumes nothing.
use Prim.Native.Nat.{ℕ, suc, ◌+◌, ◌^◌, ◌<◌}
use mathlib.Core.List.{List, [], ◌∷◌}
use mathlib.Core.Bool.{Bool, true, false, cond}
use Rattle.std.specs.Prelude.{Option, None, Some}
use mathlib.Core.Path.{◌≡◌, refl, sym, subst}
use native.Mathlib.Omega.{arith}
use lib.Dec.{eqb}
use lib.ListN.{length, get_or}
use mir.Syntax.{w64}
use mir.Val.{to_z, of_z, SFits}
use mir.ValLaws.{of_z-to_z, to_z-Fits}
use Rattle.message.specs.declared.OldTuple.{OldTuple}
use Rattle.message.specs.declared.OldTuple.TheVariants.{Nothing, Key, Full}
use Rattle.message.specs.declared.Message.{Message}
use Rattle.message.specs.declared.Message.TheVariants as a
use Rattle.message.specs.Layout.{Part}
use Rattle.message.specs.declared.kinds.Kind.{Kind}
use Rattle.message.specs.Kinds.{begin, commit, origin, relation, type, insert, update, delete, truncate, message, stream_start, stream_stop, stream_commit, stream_abort, layout, numbered}
use Rattle.message.specs.Messages.{message_of, old_tuple}
use Rattle.message.specs.Encode.{kind_of_message, parts_of, old_numbers}
use Rattle.capi.specs.Flat.{flat, in_bytes, widths, taken, parted, kind_in, message_in, same, whole}
use Rattle.capi.proofs.InBytes.{in_bytes_small}
use Rattle.capi.proofs.Fitting.{Fit, PartsFit, Fits, parts_in_bytes}

-- THE ROW OF A MESSAGE

-- the message that a flat form's numbers make
pub made : (m : Message) → message_in (flat m) (kind_in (flat m)) ≡ Some (message_of (kind_of_message m) (parts_in_bytes (layout (kind_of_message m)) (parts_of m)))
unfolding in_bytes numbered
made (a.Begin m) = refl
made (a.Commit m) = refl
made (a.Origin m) = refl
made (a.Relation m) = refl
made (a.«Type» m) = refl
made (a.Insert m) = refl
made (a.Update m) = go m.old
  where
    go : (o : OldTuple) → (let u = a.Update (record { xid = m.xid; relation = m.relation; old = o; tuple = m.tuple }) in message_in (flat u) (kind_in (flat u)) ≡ Some (message_of (kind_of_message u) (parts_in_bytes (layout (kind_of_message u)) (parts_of u))))
    go Nothing = refl
    go (Key start) = refl
    go (Full start) = refl
made (a.Delete m) = refl
made (a.Truncate m) = refl
made (a.Message m) = refl
made (a.StreamStart xid first) = refl
made a.StreamStop = refl
made (a.StreamCommit m) = refl
made (a.StreamAbort xid sub) = refl

-- THE MESSAGE OF A ROW

-- is whole
pub whole_says : (ns : List ℕ) (f : Option Message) (m : Message) → whole ns f ≡ Some m → (f ≡ Some m) × (same 16 (flat m) ns ≡ true)
whole_says ns None m q = let z : ◌≡◌ {A = ℕ} 0 1 = cc in absurd (omega arith)
whole_says ns (Some k) m q = go (same 16 (flat k) ns) refl q
  where
    go : (t : Bool) → same 16 (flat k) ns ≡ t → cond t (Some k) None ≡ Some m → (Some k ≡ Some m) × (same 16 (flat m) ns ≡ true)
    go true s q = let e : k ≡ m = cc in (q, rw (sym e) s)
    go false s q = let z : ◌≡◌ {A = ℕ} 0 1 = cc in absurd (omega arith)

-- and fits

taken_fit : (ns : List ℕ) (i : ℕ) (ws : List ℕ) → Fit ws (taken ns i ws)
taken_fit ns i [] = tt
taken_fit ns i (w ∷ ws) = (in_bytes_small w (get_or ns i 0), taken_fit ns (suc i) ws)

parted_fit : (ns : List ℕ) (i : ℕ) (ps : List Part) → PartsFit ps (parted ns i ps)
parted_fit ns i [] = tt
parted_fit ns i (p ∷ ps) = (taken_fit ns i (widths p), parted_fit ns (i + length (widths p)) ps)

time_bits : (n : ℕ) → of_z w64 (to_z w64 (in_bytes 8 n)) ≡ in_bytes 8 n
time_bits n = of_z-to_z w64 (in_bytes 8 n) (record { fits = in_bytes_small 8 n })

time-fits : (n : ℕ) → SFits w64 (to_z w64 (in_bytes 8 n))
time-fits n = to_z-Fits w64 (in_bytes 8 n) (record { fits = in_bytes_small 8 n })

old_fit : (l start : ℕ) → start < 256 ^ 8 → Fit (1 ∷ 8 ∷ []) (old_numbers (old_tuple l start))
old_fit l start h = go (eqb l 0x4B) (eqb l 0x4F)
  where
    go : (s t : Bool) → Fit (1 ∷ 8 ∷ []) (old_numbers (cond s (Key start) (cond t (Full start) Nothing)))
    go true t = (omega arith, (h, tt))
    go false true = (omega arith, (h, tt))
    go false false = (omega arith, (omega arith, tt))

made-fits : (ns : List ℕ) (k : Kind) → Fits (message_of k (parted ns 1 (layout k)))
made-fits ns begin = (rw (time_bits (get_or ns 2 0)) (parted_fit ns 1 (layout begin)), time-fits (get_or ns 2 0))
made-fits ns commit = (rw (time_bits (get_or ns 4 0)) (parted_fit ns 1 (layout commit)), time-fits (get_or ns 4 0))
made-fits ns origin = (parted_fit ns 1 (layout origin), tt)
made-fits ns relation = (parted_fit ns 1 (layout relation), tt)
made-fits ns type = (parted_fit ns 1 (layout type), tt)
made-fits ns insert = (parted_fit ns 1 (layout insert), tt)
made-fits ns update =
    let f = parted_fit ns 1 (layout update) in
    ((f.0, (f.1.0, (old_fit (in_bytes 1 (get_or ns 3 0)) (in_bytes 8 (get_or ns 4 0)) (in_bytes_small 8 (get_or ns 4 0)), f.1.1.1))), tt)
made-fits ns delete = (parted_fit ns 1 (layout delete), tt)
made-fits ns truncate = (parted_fit ns 1 (layout truncate), tt)
made-fits ns message = (parted_fit ns 1 (layout message), tt)
made-fits ns stream_start = (parted_fit ns 1 (layout stream_start), tt)
made-fits ns stream_stop = (tt, tt)
made-fits ns stream_commit = (rw (time_bits (get_or ns 5 0)) (parted_fit ns 1 (layout stream_commit)), time-fits (get_or ns 5 0))
made-fits ns stream_abort = (parted_fit ns 1 (layout stream_abort), tt)

pub in_fits : (ns : List ℕ) (k : Option Kind) (m : Message) → message_in ns k ≡ Some m → Fits m
in_fits ns None m q = let z : ◌≡◌ {A = ℕ} 0 1 = cc in absurd (omega arith)
in_fits ns (Some k) m q = let e : message_of k (parted ns 1 (layout k)) ≡ m = cc in subst Fits e (made-fits ns k)
