-- The laws of `streams_of`, and the turns of the functions over it.
use mathlib.Core.Path.{◌≡◌, refl, sym, ◌∙◌, ap}
use mathlib.Core.List.{List, [], ◌∷◌, ◌++◌}
use mathlib.Core.Bool.{Bool, true, false, cond, not}
use Prim.Native.Nat.{ℕ, zero, suc, ◌+◌, ◌≤◌, ◌<◌}
use native.Mathlib.Omega.{arith}
use lib.Dec.{eqb}
use lib.ListN.{length, take, drop, get_or, set, length-set}
use lib.Seq.{ext_get_or, set_out}
use Rattle.wire.specs.Lists.{any, index_of, replace_first, change, each, first_of, first, rest}
use Rattle.catalog.specs.Table.{Stream, streams_of, is, xid_is, changed_of, free_stream, new_stream, marked}
use Rattle.std.specs.Prelude.{Option, Some, None, is_some}
use Rattle.std.specs.List.{position}
use Rattle.catalog.specs.declared.streams.Streams.{Streams}
use Rattle.catalog.specs.Opens.{streams, places_in, placed}
use Rattle.catalog.proofs.Searches.{position_some, position_none, any_at, any_not, swap_at, first-at, first_not}
use Rattle.catalog.proofs.Loops.{change_turn, change_end}
use Rattle.catalog.proofs.Columns.{each-length, each_at, first-is, rest_at, rest_short, first-set, rest-set, first-later, rest-later}

abbrev pub stream : ℕ → ℕ → Stream
stream x m = record { xid = x; changed = m }

pub streams-length : (xids marks : List ℕ) → length (streams_of xids marks) ≡ length xids
streams-length [] marks = refl
streams-length (x ∷ xids) marks = ap suc (streams-length xids (rest marks))

pub streams-at : (xids marks : List ℕ) (i : ℕ) → i < length xids → get_or (streams_of xids marks) i free_stream ≡ stream (get_or xids i 0) (get_or marks i 0)
streams-at [] marks i h = absurd (omega (arith, h))
streams-at (x ∷ xids) marks zero h = rw (← first-is marks)
streams-at (x ∷ xids) marks (suc i) h = streams-at xids (rest marks) i (omega (arith, h)) ∙ rw (rest_at marks i)

pub streams-set : (xids marks : List ℕ) (i x m : ℕ) → i < length marks → streams_of (set xids i x) (set marks i m) ≡ set (streams_of xids marks) i (stream x m)
streams-set [] marks i x m h = refl
streams-set (a ∷ xids) marks zero x m h = rw (first-set marks m h, rest-set marks m)
streams-set (a ∷ xids) marks (suc i) x m h =
    rw (first-later marks i m, rest-later marks i m) (ap (λ (l : List Stream). stream a (first marks) ∷ l) (streams-set xids (rest marks) i x m (rest_short marks i h)))

pub streams_mark : (xids marks : List ℕ) (i m : ℕ) → i < length marks → streams_of xids (set marks i m) ≡ set (streams_of xids marks) i (stream (get_or xids i 0) m)
streams_mark [] marks i m h = refl
streams_mark (a ∷ xids) marks zero m h = rw (first-set marks m h, rest-set marks m)
streams_mark (a ∷ xids) marks (suc i) m h =
    rw (first-later marks i m, rest-later marks i m) (ap (λ (l : List Stream). stream a (first marks) ∷ l) (streams_mark xids (rest marks) i m (rest_short marks i h)))

pub streams-each : (l : List Stream) → streams_of (each (λ r. r.xid) l) (each (λ r. r.changed) l) ≡ l
streams-each [] = refl
streams-each (r ∷ l) = ap (λ (m : List Stream). r ∷ m) (streams-each l)

module _ (xids marks : List ℕ) where
  column : (f : Stream → ℕ) (l : List ℕ) → length l ≡ length xids → ((i : ℕ) → f (stream (get_or xids i 0) (get_or marks i 0)) ≡ get_or l i 0) → each f (streams_of xids marks) ≡ l
  column f l e same =
      ext_get_or 0 (each f (streams_of xids marks)) l (each-length f (streams_of xids marks) ∙ streams-length xids marks ∙ sym e)
      (λ i h. let b : i < length xids = omega (arith, h, each-length f (streams_of xids marks), streams-length xids marks) in
      each_at f free_stream (streams_of xids marks) i (omega (arith, b, streams-length xids marks)) ∙ ap f (streams-at xids marks i b) ∙ same i)

  pub xids_of : each (λ r. r.xid) (streams_of xids marks) ≡ xids
  xids_of = column (λ r. r.xid) xids refl (λ i. refl)

  pub marks_of : length marks ≡ length xids → each (λ r. r.changed) (streams_of xids marks) ≡ marks
  marks_of e = column (λ r. r.changed) marks e (λ i. refl)

-- arrays that were stored
pub placed-is : (x m : List ℕ) (l : List Stream) → length m ≡ length x → streams_of x m ≡ l → streams x m ≡ placed l
placed-is x m l n e = rw (← e, xids_of x m, marks_of x m n)

pub index_xid : (x : ℕ) (xids marks : List ℕ) → index_of (xid_is x) (streams_of xids marks) ≡ index_of (is x) xids
index_xid x [] marks = refl
index_xid x (a ∷ xids) marks = rw (index_xid x xids (rest marks))

-- what a search of the xids says of the places
module _ (s : Streams) (x : ℕ) (found : Option ℕ) (is_position : found ≡ position (is x) s.xids) where
  at_place : (at : ℕ) → found ≡ Some at → (at ≡ index_of (xid_is x) (places_in s)) × (at < length (places_in s))
  at_place at e = let k = position_some (is x) s.xids at (sym is_position ∙ e) in
      (k.0 ∙ sym (index_xid x s.xids s.marks), omega (arith, k.1, streams-length s.xids s.marks))

  no_place : found ≡ None → length (places_in s) ≤ index_of (xid_is x) (places_in s)
  no_place e = omega (arith, position_none (is x) s.xids (sym is_position ∙ e), index_xid x s.xids s.marks, streams-length s.xids s.marks)

  pub any_found : is_some found ≡ any (xid_is x) (places_in s)
  any_found = go found refl
    where
      go : (o : Option ℕ) → found ≡ o → is_some o ≡ any (xid_is x) (places_in s)
      go (Some at) e = let k = at_place at e in sym (any_at (xid_is x) (places_in s) (omega arith))
      go None e = sym (any_not (xid_is x) (places_in s) (no_place e))

  pub mark_at : (at : ℕ) → found ≡ Some at → not (eqb (get_or s.marks at 0) 0) ≡ first_of changed_of false (xid_is x) (places_in s)
  mark_at at e = let k = at_place at e in
      ap changed_of (sym (streams-at s.xids s.marks at (omega (arith, k.1, streams-length s.xids s.marks))))
      ∙ ap (λ (i : ℕ). changed_of (get_or (places_in s) i free_stream)) k.0
      ∙ sym (first-at changed_of false (xid_is x) free_stream (places_in s) (omega arith))

  pub mark_none : found ≡ None → false ≡ first_of changed_of false (xid_is x) (places_in s)
  mark_none e = sym (first_not changed_of false (xid_is x) free_stream (places_in s) (no_place e))

  module _ (n : length s.xids ≡ 16) (m : length s.marks ≡ 16) (b : ℕ) where
    pub swap_set : (at : ℕ) → found ≡ Some at → streams (set s.xids at b) (set s.marks at 0) ≡ placed (replace_first (xid_is x) (new_stream b) (places_in s))
    swap_set at e = let k = at_place at e in
        placed-is (set s.xids at b) (set s.marks at 0) (replace_first (xid_is x) (new_stream b) (places_in s)) (omega (arith, length-set s.xids at b, length-set s.marks at 0))
        (streams-set s.xids s.marks at b 0 (omega (arith, k.1, streams-length s.xids s.marks))
        ∙ ap (λ (i : ℕ). set (places_in s) i (new_stream b)) k.0 ∙ sym (swap_at (xid_is x) (new_stream b) (places_in s)))

    pub swap_none : found ≡ None → s ≡ placed (replace_first (xid_is x) (new_stream b) (places_in s))
    swap_none e =
        placed-is s.xids s.marks (replace_first (xid_is x) (new_stream b) (places_in s)) (omega arith)
        (sym (set_out (places_in s) (index_of (xid_is x) (places_in s)) (new_stream b) (no_place e)) ∙ sym (swap_at (xid_is x) (new_stream b) (places_in s)))

-- marking
pub record Marking (t : ℕ) (old now : Streams) (i : ℕ) : Type 0 where
  pub same : now.xids ≡ old.xids
  pub sized : length now.marks ≡ 16
  pub left : take i (places_in now) ++ change (marked t) (drop i (places_in now)) ≡ change (marked t) (places_in old)

module _ (t : ℕ) (old : Streams) (long : length old.xids ≡ 16) where
  pub mark_start : length old.marks ≡ 16 → Marking t old old 0
  mark_start n = record { same = refl; sized = n; left = refl }

  module _ (now : Streams) (i : ℕ) (m : Marking t old now i) where
    one : (x k : ℕ) → marked t (stream x k) ≡ stream x (cond (eqb x t) 1 k)
    one x k = go (eqb x t)
      where
        go : (v : Bool) → cond v (stream x 1) (stream x k) ≡ stream x (cond v 1 k)
        go true = refl
        go false = refl

    many : length (places_in now) ≡ 16
    many = streams-length now.xids now.marks ∙ ap length m.same ∙ long

    stored : i < 16 → streams_of now.xids (set now.marks i (cond (eqb (get_or now.xids i 0) t) 1 (get_or now.marks i 0))) ≡ set (places_in now) i (marked t (get_or (places_in now) i free_stream))
    stored h =
        streams_mark now.xids now.marks i (cond (eqb (get_or now.xids i 0) t) 1 (get_or now.marks i 0)) (omega (arith, m.sized))
        ∙ ap (λ (s : Stream). set (places_in now) i s)
        (sym (one (get_or now.xids i 0) (get_or now.marks i 0)) ∙ ap (marked t) (sym (streams-at now.xids now.marks i (omega (arith, many, streams-length now.xids now.marks)))))

    pub mark_turn : i < 16 → (v : ℕ) → v ≡ cond (eqb (get_or now.xids i 0) t) 1 (get_or now.marks i 0) → Marking t old (streams now.xids (set now.marks i v)) (i + 1)
    mark_turn h v e = record {
      same = m.same;
      sized = length-set now.marks i v ∙ m.sized;
      left = rw (e, stored h) (change_turn (marked t) free_stream (places_in now) i (omega (arith, many)) ∙ m.left);
    }

    pub mark_end : 16 ≤ i → now ≡ placed (change (marked t) (places_in old))
    mark_end h =
        placed-is now.xids now.marks (change (marked t) (places_in old)) (m.sized ∙ sym (ap length m.same ∙ long))
        (sym (change_end (marked t) free_stream (places_in now) i (omega (arith, many))) ∙ m.left)
