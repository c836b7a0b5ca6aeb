-- THE LAWS of the open streamed transactions, all that is known of them above. Assumes nothing.
use mathlib.Core.Path.{◌≡◌, refl, sym, ◌∙◌, ap}
use mathlib.Core.List.{List, [], ◌∷◌}
use mathlib.Core.Bool.{Bool, true, false, cond, not, ◌||◌, ◌&&◌, true≢false, false≢true}
use Prim.Native.Nat.{ℕ, zero, suc, ◌+◌, ◌-◌, ◌≤◌}
use native.Mathlib.Omega.{arith}
use lib.ListN.{length, replicate}
use lib.Dec.{eqb, leb}
use borrow.Author.Tests.{eq-eqb, ne_eqb, eqb-true, eqb-false, le-leb, lt-leb}
use Rattle.wire.specs.Lists.{any, tally, replace_first, change, keep, first_of, each}
use Rattle.catalog.specs.Table.{Stream, streams_of, is, xid_is, changed_of, free_stream, new_stream, marked}
use Rattle.catalog.specs.declared.streams.Streams.{Streams}
use Rattle.catalog.specs.Opens.{places_in, placed, fresh_streams, is_open_in, open_count_in, changed_in, open_in, close_in, mark_in}
use Rattle.catalog.proofs.Counting.{bit, any-tally, none-tally, tally-none, tally_bit, swap_tally, keep-length, tally-keep, length_by_counts}
use Rattle.catalog.proofs.Columns.{each-length}
use Rattle.catalog.proofs.StreamLaws.{streams-each}
use Rattle.catalog.proofs.Firsts.{first_swap_other, first_swap_new, first-change, tally-change, change-length, swap_length}

abbrev pub NonZero : ℕ → Type 0
NonZero x = x ≡ 0 → ⊥

pub record Sound (s : Streams) : Type 0 where
  pub room : length (places_in s) ≡ 16
  pub once : (t : ℕ) → NonZero t → tally (xid_is t) (places_in s) ≤ 1

placed_places : (l : List Stream) → places_in (placed l) ≡ l
placed_places l = streams-each l

module _ (s : Streams) where
  pub no_xid : false ≡ is_open_in s 0
  unfolding is_open_in
  no_xid = refl

  pub open_any : (x : ℕ) → NonZero x → is_open_in s x ≡ any (xid_is x) (places_in s)
  unfolding is_open_in
  open_any x z = rw (ne_eqb x 0 z)

  pub changed-first : (x : ℕ) → changed_in s x ≡ first_of changed_of false (xid_is x) (places_in s)
  unfolding changed_in
  changed-first x = refl

  -- whether no place is free
  pub no_place : not (any (xid_is 0) (places_in s)) ≡ leb 16 (open_count_in s)
  unfolding open_count_in
  no_place = go (any (xid_is 0) (places_in s)) refl
    where
      go : (v : Bool) → any (xid_is 0) (places_in s) ≡ v → not v ≡ leb 16 (16 - tally (xid_is 0) (places_in s))
      go true e = let k = any-tally (xid_is 0) (places_in s) e in sym (lt-leb 16 (16 - tally (xid_is 0) (places_in s)) (omega arith))
      go false e = let k = none-tally (xid_is 0) (places_in s) e in sym (le-leb 16 (16 - tally (xid_is 0) (places_in s)) (omega arith))

-- a law for each xid but 0, which is none
by_xid : (s s' : Streams) (f : Bool → Bool) (t : ℕ) → (NonZero t → any (xid_is t) (places_in s') ≡ f (any (xid_is t) (places_in s))) → (t ≡ 0 → false ≡ f false) → is_open_in s' t ≡ f (is_open_in s t)
unfolding is_open_in
by_xid s s' f t some none = go (eqb t 0) refl
  where
    go : (v : Bool) → eqb t 0 ≡ v → not v && any (xid_is t) (places_in s') ≡ f (not v && any (xid_is t) (places_in s))
    go true e = none (eqb-true t 0 e)
    go false e = some (eqb-false t 0 e)

-- FRESH
tally_free : (n t : ℕ) → NonZero t → tally (xid_is t) (streams_of (replicate n 0) (replicate n 0)) ≡ 0
tally_free zero t z = refl
tally_free (suc n) t z = rw (ne_eqb 0 t (λ e. z (sym e)), tally_free n t z)

pub fresh_sound : Sound fresh_streams
unfolding fresh_streams
fresh_sound = record { room = refl; once = λ t z. let k = tally_free 16 t z in omega (arith, k) }

pub fresh_open : (t : ℕ) → is_open_in fresh_streams t ≡ false
unfolding fresh_streams
fresh_open t = by_xid fresh_streams fresh_streams (λ v. false) t (λ z. tally-none (xid_is t) (places_in fresh_streams) (tally_free 16 t z)) (λ e. refl)

-- some row that does not pass q is replaced
any_swap : (p q : Stream → Bool) (b : Stream) (l : List Stream) → ((a : Stream) → p a ≡ true → q a ≡ false) → any p l ≡ true → any q (replace_first p b l) ≡ q b || any q l
any_swap p q b [] other e = absurd (false≢true e)
any_swap p q b (a ∷ l) other e = go (p a) refl (any_swap p q b l other)
  where
    swap : (u v w : Bool) → u || (v || w) ≡ v || (u || w)
    swap true true w = refl
    swap true false w = refl
    swap false v w = refl

    go : (v : Bool) → p a ≡ v → (any p l ≡ true → any q (replace_first p b l) ≡ q b || any q l) → any q (cond (p a) (b ∷ l) (a ∷ replace_first p b l)) ≡ q b || (q a || any q l)
    go true w r = rw (w, other a w)
    go false w r = rw (w, r (rw w at e)) (swap (q a) (q b) (any q l))

module _ (s : Streams) (a : Sound s) (x : ℕ) (nz : NonZero x) where
  not_free : (t : ℕ) → NonZero t → (r : Stream) → xid_is 0 r ≡ true → xid_is t r ≡ false
  not_free t z r e = rw (eqb-true r.xid 0 e) (ne_eqb 0 t (λ k. z (sym k)))

  of_x : (t : ℕ) (r : Stream) → xid_is x r ≡ true → xid_is t r ≡ eqb x t
  of_x t r e = ap (λ (n : ℕ). eqb n t) (eqb-true r.xid x e)

  -- X IS OPENED
  module _ (shut : is_open_in s x ≡ false) (room : leb 16 (open_count_in s) ≡ false) where
    abbrev new : List Stream
    new = replace_first (xid_is 0) (new_stream x) (places_in s)

    none : any (xid_is x) (places_in s) ≡ false
    none = sym (open_any s x nz) ∙ shut

    free : any (xid_is 0) (places_in s) ≡ true
    free = go (any (xid_is 0) (places_in s)) (no_place s ∙ room)
      where
        go : (v : Bool) → not v ≡ false → v ≡ true
        go true e = refl
        go false e = absurd (true≢false e)

    pub open_sound : Sound (open_in s x)
    unfolding open_in
    open_sound = record { room = ap length (placed_places new) ∙ swap_length (xid_is 0) (new_stream x) (places_in s) ∙ a.room; once = λ t z. rw (placed_places new) (count t z (eqb x t) refl) }
      where
        count : (t : ℕ) → NonZero t → (v : Bool) → eqb x t ≡ v → tally (xid_is t) new ≤ 1
        count t z true e =
            let k = swap_tally (xid_is 0) (xid_is t) false (new_stream x) (places_in s) (not_free t z) free in
            let k' : tally (xid_is t) new + 0 ≡ tally (xid_is t) (places_in s) + 1 = rw e at k in
            let n : tally (xid_is t) (places_in s) ≡ 0 = rw (← eqb-true x t e) (none-tally (xid_is x) (places_in s) none) in
            omega (arith, k', n)
        count t z false e =
            let k = swap_tally (xid_is 0) (xid_is t) false (new_stream x) (places_in s) (not_free t z) free in
            let k' : tally (xid_is t) new + 0 ≡ tally (xid_is t) (places_in s) + 0 = rw e at k in
            let n = a.once t z in
            omega (arith, k', n)

    pub open_open : (t : ℕ) → is_open_in (open_in s x) t ≡ eqb x t || is_open_in s t
    unfolding open_in
    open_open t =
        by_xid s (placed new) (λ v. eqb x t || v) t
        (λ z. ap (any (xid_is t)) (placed_places new) ∙ any_swap (xid_is 0) (xid_is t) (new_stream x) (places_in s) (not_free t z) free)
        (λ e. rw (e, ne_eqb x 0 nz))

    pub open_changed : (t : ℕ) → NonZero t → changed_in (open_in s x) t ≡ not (eqb x t) && changed_in s t
    unfolding open_in changed_in
    open_changed t z = ap (first_of changed_of false (xid_is t)) (placed_places new) ∙ go (eqb x t) refl
      where
        go : (v : Bool) → eqb x t ≡ v → first_of changed_of false (xid_is t) new ≡ not v && first_of changed_of false (xid_is t) (places_in s)
        go true e = first_swap_new changed_of false (xid_is 0) (xid_is t) (new_stream x) (places_in s) free (rw (← eqb-true x t e) none) e
        go false e = first_swap_other changed_of false (xid_is 0) (xid_is t) (new_stream x) (places_in s) (not_free t z) e

  module _ (is_open : is_open_in s x ≡ true) where
    some : any (xid_is x) (places_in s) ≡ true
    some = sym (open_any s x nz) ∙ is_open

    -- X IS CLOSED
    abbrev old : List Stream
    old = replace_first (xid_is x) free_stream (places_in s)

    fewer : (t : ℕ) → tally (xid_is t) old + bit (eqb x t) ≡ tally (xid_is t) (places_in s) + bit (eqb 0 t)
    fewer t = swap_tally (xid_is x) (xid_is t) (eqb x t) free_stream (places_in s) (of_x t) some

    pub close_sound : Sound (close_in s x)
    unfolding close_in
    close_sound = record {
      room = ap length (placed_places old) ∙ swap_length (xid_is x) free_stream (places_in s) ∙ a.room;
      once = λ t z. rw (placed_places old) (let k : tally (xid_is t) old + bit (eqb x t) ≡ tally (xid_is t) (places_in s) + 0 = rw (ne_eqb 0 t (λ e. z (sym e))) at (fewer t) in let n = a.once t z in omega (arith, k, n));
    }

    pub close_open : (t : ℕ) → is_open_in (close_in s x) t ≡ not (eqb x t) && is_open_in s t
    unfolding close_in
    close_open t = by_xid s (placed old) (λ v. not (eqb x t) && v) t (λ z. ap (any (xid_is t)) (placed_places old) ∙ go z (eqb x t) refl) (λ e. sym (and_false (not (eqb x t))))
      where
        and_false : (b : Bool) → b && false ≡ false
        and_false true = refl
        and_false false = refl

        go : NonZero t → (v : Bool) → eqb x t ≡ v → any (xid_is t) old ≡ not v && any (xid_is t) (places_in s)
        go z true e =
            let k : tally (xid_is t) old + 1 ≡ tally (xid_is t) (places_in s) + 0 = rw (e, ne_eqb 0 t (λ q. z (sym q))) at (fewer t) in
            let n = a.once t z in
            tally-none (xid_is t) old (omega (arith, k, n))
        go z false e = any_swap (xid_is x) (xid_is t) free_stream (places_in s) (λ r m. of_x t r m ∙ e) some ∙ rw (ne_eqb 0 t (λ q. z (sym q)))

    pub close_changed : (t : ℕ) → NonZero t → eqb x t ≡ false → changed_in (close_in s x) t ≡ changed_in s t
    unfolding close_in changed_in
    close_changed t z e = ap (first_of changed_of false (xid_is t)) (placed_places old) ∙ first_swap_other changed_of false (xid_is x) (xid_is t) free_stream (places_in s) (λ r m. of_x t r m ∙ e) (ne_eqb 0 t (λ q. z (sym q)))

    -- X HAS A CHANGE
    same-xid : (t : ℕ) (r : Stream) → xid_is t (marked x r) ≡ xid_is t r
    same-xid t r = go (eqb r.xid x)
      where
        go : (v : Bool) → xid_is t (cond v (record { xid = r.xid; changed = 1 }) r) ≡ xid_is t r
        go true = refl
        go false = refl

    any-marked : (t : ℕ) (m : List Stream) → any (xid_is t) (change (marked x) m) ≡ any (xid_is t) m
    any-marked t [] = refl
    any-marked t (r ∷ m) = rw (same-xid t r, any-marked t m)

    pub mark_sound : Sound (mark_in s x)
    unfolding mark_in
    mark_sound = record {
      room = ap length (placed_places (change (marked x) (places_in s))) ∙ change-length (marked x) (places_in s) ∙ a.room;
      once = λ t z. rw (placed_places (change (marked x) (places_in s)), tally-change (marked x) (xid_is t) (xid_is t) (same-xid t) (places_in s)) (a.once t z);
    }

    pub mark_open : (t : ℕ) → is_open_in (mark_in s x) t ≡ is_open_in s t
    unfolding mark_in
    mark_open t = by_xid s (placed (change (marked x) (places_in s))) (λ v. v) t (λ z. ap (any (xid_is t)) (placed_places (change (marked x) (places_in s))) ∙ any-marked t (places_in s)) (λ e. refl)

    pub mark_changed : (t : ℕ) → changed_in (mark_in s x) t ≡ eqb x t || changed_in s t
    unfolding mark_in changed_in
    mark_changed t = ap (first_of changed_of false (xid_is t)) (placed_places (change (marked x) (places_in s))) ∙ go (eqb x t) refl
      where
        all_marked : (m : List Stream) → any (xid_is x) m ≡ true → first_of changed_of false (xid_is x) (change (marked x) m) ≡ true
        all_marked [] e = absurd (false≢true e)
        all_marked (r ∷ m) e = turn (eqb r.xid x) refl (all_marked m)
          where
            turn : (v : Bool) → eqb r.xid x ≡ v → (any (xid_is x) m ≡ true → first_of changed_of false (xid_is x) (change (marked x) m) ≡ true)
                → cond (xid_is x (marked x r)) (changed_of (marked x r)) (first_of changed_of false (xid_is x) (change (marked x) m)) ≡ true
            turn true w k = rw (same-xid x r, w)
            turn false w k = rw (same-xid x r, w) (k (rw w at e))

        other : eqb x t ≡ false → (r : Stream) → xid_is t r ≡ true → changed_of (marked x r) ≡ changed_of r
        other e r k = turn (eqb r.xid x) refl
          where
            turn : (v : Bool) → eqb r.xid x ≡ v → changed_of (cond (eqb r.xid x) (record { xid = r.xid; changed = 1 }) r) ≡ changed_of r
            turn true w = absurd (false≢true (sym e ∙ sym (of_x t r w) ∙ k))
            turn false w = rw w

        go : (v : Bool) → eqb x t ≡ v → first_of changed_of false (xid_is t) (change (marked x) (places_in s)) ≡ v || first_of changed_of false (xid_is t) (places_in s)
        go true e = rw (← eqb-true x t e) (all_marked (places_in s) some)
        go false e = first-change changed_of false (marked x) (xid_is t) (xid_is t) (same-xid t) (places_in s) (other e)

-- HOW MANY: as long as a list that has each open xid, once, and no other

pub is_eq : (x y : ℕ) → is x y ≡ true → x ≡ y
is_eq x y e = sym (eqb-true y x e)

pub is_refl : (x : ℕ) → is x x ≡ true
is_refl x = eq-eqb x x refl

abbrev xids_in : List Stream → List ℕ
xids_in l = each (λ r. r.xid) l

xids-tally : (t : ℕ) (l : List Stream) → tally (is t) (xids_in l) ≡ tally (xid_is t) l
xids-tally t [] = refl
xids-tally t (r ∷ l) = rw (xids-tally t l)

abbrev is_used : ℕ → Bool
is_used y = not (is 0 y)

xids_free : (l : List Stream) → tally (λ y. not (is_used y)) (xids_in l) ≡ tally (xid_is 0) l
xids_free [] = refl
xids_free (r ∷ l) = go (eqb r.xid 0) (xids_free l)
  where
    go : (v : Bool) → tally (λ y. not (is_used y)) (xids_in l) ≡ tally (xid_is 0) l
        → cond (not (not v)) 1 0 + tally (λ y. not (is_used y)) (xids_in l) ≡ cond v 1 0 + tally (xid_is 0) l
    go true k = rw k
    go false k = rw k

pub few_open : (s : Streams) → open_count_in s ≤ 16
unfolding open_count_in
few_open s = omega arith

pub count_by_counts : (s : Streams) → Sound s → (l : List ℕ) → ((t : ℕ) → tally (is t) l ≡ bit (is_open_in s t)) → length l ≡ open_count_in s
unfolding open_count_in is_open_in
count_by_counts s a l counts =
    let n = length_by_counts is is_eq is_refl l (keep is_used (xids_in (places_in s))) same in
    let k = keep-length is_used (xids_in (places_in s)) in
    let e = xids_free (places_in s) in
    let m = each-length (λ (r : Stream). r.xid) (places_in s) in
    let r = a.room in
    omega arith
  where
    same : (x : ℕ) → tally (is x) l ≡ tally (is x) (keep is_used (xids_in (places_in s)))
    same x = counts x ∙ sym (tally-keep is is_eq is_refl is_used x (xids_in (places_in s)) ∙ go (eqb x 0) refl)
      where
        go : (v : Bool) → eqb x 0 ≡ v → cond (not v) (tally (is x) (xids_in (places_in s))) 0 ≡ bit (not v && any (xid_is x) (places_in s))
        go true e = refl
        go false e = xids-tally x (places_in s) ∙ tally_bit (xid_is x) (places_in s) (a.once x (eqb-false x 0 e))
