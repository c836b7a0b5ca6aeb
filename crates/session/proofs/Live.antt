-- The announcements of a table are as many as the live ones that history gives: the room of 256. Assumes nothing.
use mathlib.Core.Path.{◌≡◌, refl, sym, ◌∙◌, ap}
use mathlib.Core.List.{List, [], ◌∷◌}
use mathlib.Core.Bool.{Bool, true, false, cond, ◌||◌, ◌&&◌, false≢true}
use Prim.Native.Nat.{ℕ}
use lib.Dec.{eqb}
use borrow.Author.Tests.{eqb-true}
use Rattle.wire.specs.Lists.{Pair, pair, same_pair, any, tally, keep, distinct}
use Rattle.catalog.proofs.Tables.{same_eq, same_refl}
use Rattle.catalog.proofs.Counting.{bit, tally-keep, tally-distinct}
use Rattle.session.specs.declared.Place.{Place}
use Rattle.session.specs.Events.{Begin, Commit, Origin, Relation, Change, Truncate, Neutral, Logical, StreamStart, StreamStop, StreamCommit, StreamAbort}
use Rattle.session.specs.History.{Announced, unannounced, announced, is_announced, or_else, entry, History, shown, place, in_block, in_transaction, holder_at, own, common, latest, pairs, is_live, live_count}
use Rattle.session.specs.State.{Layout}
use Rattle.wire.proofs.Tests.{and_parts}
use Rattle.session.proofs.Lawful.{Lawful}
use Rattle.session.proofs.Rows.{Agrees}

-- EVERY LIVE PAIR IS ONE THAT AN R MADE

any-later : (p : Pair → Bool) (a b : Pair) (l : List Pair) → any p l ≡ true → any p (a ∷ b ∷ l) ≡ true
any-later p a b l e = go (p a) (p b)
  where
    go : (u v : Bool) → u || (v || any p l) ≡ true
    go true v = refl
    go false true = refl
    go false false = e

-- the common pair of an R
any-common : (k : Pair) (n o : ℕ) (l : List Pair) → eqb n o ≡ true → any (same_pair (pair 0 o)) (k ∷ pair 0 n ∷ l) ≡ true
any-common k n o l e = rw e (go (same_pair (pair 0 o) k))
  where
    go : (u : Bool) → u || (true || any (same_pair (pair 0 o)) l) ≡ true
    go true = refl
    go false = refl

-- an announcement that was not dropped
dropped_found : (v : Bool) (s : Announced) → is_announced (cond v unannounced s) ≡ true → is_announced s ≡ true
dropped_found true s e = absurd (false≢true e)
dropped_found false s e = e

-- of t's own announcement of an OID, t's pair and the common one
own-pairs : (h : History) (t o : ℕ) → is_announced (own h t o) ≡ true → (any (same_pair (pair t o)) (pairs h) ≡ true) × (any (same_pair (pair 0 o)) (pairs h) ≡ true)
own-pairs [] t o e = absurd (false≢true e)
own-pairs (entry (Begin l x) g ∷ h) t o e = own-pairs h t o e
own-pairs (entry (Commit l) g ∷ h) t o e = own-pairs h t o e
own-pairs (entry Origin g ∷ h) t o e = own-pairs h t o e
own-pairs (entry (Relation n i c) g ∷ h) t o e = go (in_block (place h) && eqb (holder_at (place h)) t && eqb n o) refl e (own-pairs h t o)
  where
    p : Place
    p = place h

    go : (v : Bool) → in_block p && eqb (holder_at p) t && eqb n o ≡ v → is_announced (cond v (shown g i c) (own h t o)) ≡ true
        → (is_announced (own h t o) ≡ true → (any (same_pair (pair t o)) (pairs h) ≡ true) × (any (same_pair (pair 0 o)) (pairs h) ≡ true))
        → (any (same_pair (pair t o)) (pair (holder_at p) n ∷ pair 0 n ∷ pairs h) ≡ true) × (any (same_pair (pair 0 o)) (pair (holder_at p) n ∷ pair 0 n ∷ pairs h) ≡ true)
    go true w k r =
        let m = and_parts (in_block p && eqb (holder_at p) t) (eqb n o) w in
        let t-is = (and_parts (in_block p) (eqb (holder_at p) t) m.0).1 in
        (rw (t-is, m.1), any-common (pair (holder_at p) n) n o (pairs h) m.1)
    go false w k r =
        let m = r k in
        (any-later (same_pair (pair t o)) (pair (holder_at p) n) (pair 0 n) (pairs h) m.0, any-later (same_pair (pair 0 o)) (pair (holder_at p) n) (pair 0 n) (pairs h) m.1)
own-pairs (entry (Change x n ts) g ∷ h) t o e = own-pairs h t o e
own-pairs (entry (Truncate x os) g ∷ h) t o e = own-pairs h t o e
own-pairs (entry Neutral g ∷ h) t o e = own-pairs h t o e
own-pairs (entry (Logical v) g ∷ h) t o e = own-pairs h t o e
own-pairs (entry (StreamStart x first) g ∷ h) t o e = own-pairs h t o e
own-pairs (entry StreamStop g ∷ h) t o e = own-pairs h t o e
own-pairs (entry (StreamCommit x) g ∷ h) t o e = own-pairs h t o (dropped_found (eqb x t) (own h t o) e)
own-pairs (entry (StreamAbort x sub) g ∷ h) t o e = own-pairs h t o (dropped_found (eqb x sub && eqb x t) (own h t o) e)

common-pairs : (h : History) (o : ℕ) → is_announced (common h o) ≡ true → any (same_pair (pair 0 o)) (pairs h) ≡ true
common-pairs [] o e = absurd (false≢true e)
common-pairs (entry (Begin l x) g ∷ h) o e = common-pairs h o e
common-pairs (entry (Commit l) g ∷ h) o e = common-pairs h o e
common-pairs (entry Origin g ∷ h) o e = common-pairs h o e
common-pairs (entry (Relation n i c) g ∷ h) o e = go (in_transaction (place h) && eqb n o) refl e (common-pairs h o)
  where
    p : Place
    p = place h

    go : (v : Bool) → in_transaction p && eqb n o ≡ v → is_announced (cond v (shown g i c) (common h o)) ≡ true
        → (is_announced (common h o) ≡ true → any (same_pair (pair 0 o)) (pairs h) ≡ true)
        → any (same_pair (pair 0 o)) (pair (holder_at p) n ∷ pair 0 n ∷ pairs h) ≡ true
    go true w k r = any-common (pair (holder_at p) n) n o (pairs h) (and_parts (in_transaction p) (eqb n o) w).1
    go false w k r = any-later (same_pair (pair 0 o)) (pair (holder_at p) n) (pair 0 n) (pairs h) (r k)
common-pairs (entry (Change x n ts) g ∷ h) o e = common-pairs h o e
common-pairs (entry (Truncate x os) g ∷ h) o e = common-pairs h o e
common-pairs (entry Neutral g ∷ h) o e = common-pairs h o e
common-pairs (entry (Logical v) g ∷ h) o e = common-pairs h o e
common-pairs (entry (StreamStart x first) g ∷ h) o e = common-pairs h o e
common-pairs (entry StreamStop g ∷ h) o e = common-pairs h o e
common-pairs (entry (StreamCommit x) g ∷ h) o e = go (own h x o) refl e (common-pairs h o)
  where
    go : (s : Announced) → own h x o ≡ s → is_announced (or_else s (common h o)) ≡ true → (is_announced (common h o) ≡ true → any (same_pair (pair 0 o)) (pairs h) ≡ true)
        → any (same_pair (pair 0 o)) (pairs h) ≡ true
    go unannounced w k r = r k
    go (announced a b c) w k r = (own-pairs h x o (ap is_announced w)).1
common-pairs (entry (StreamAbort x sub) g ∷ h) o e = common-pairs h o e

live_pairs : (h : History) (t o : ℕ) → is_announced (latest h t o) ≡ true → any (same_pair (pair t o)) (pairs h) ≡ true
live_pairs h t o e = go (eqb t 0) refl
  where
    go : (v : Bool) → eqb t 0 ≡ v → any (same_pair (pair t o)) (pairs h) ≡ true
    go true w = rw (eqb-true t 0 w) (common-pairs h o (rw w at e))
    go false w = (own-pairs h t o (rw w at e)).0

-- THE ROOM: the live pairs, each once

pub live_tally : (h : History) (t o : ℕ) → tally (same_pair (pair t o)) (keep (is_live h) (distinct same_pair (pairs h))) ≡ bit (is_announced (latest h t o))
live_tally h t o =
    tally-keep same_pair same_eq same_refl (is_live h) (pair t o) (distinct same_pair (pairs h))
    ∙ ap (λ (n : ℕ). cond (is_announced (latest h t o)) n 0) (tally-distinct same_pair same_eq same_refl (pair t o) (pairs h))
    ∙ go (is_announced (latest h t o)) refl
  where
    go : (v : Bool) → is_announced (latest h t o) ≡ v → cond v (bit (any (same_pair (pair t o)) (pairs h))) 0 ≡ bit v
    go true e = rw (live_pairs h t o e)
    go false e = refl

pub live_used : (L : Layout) (laws : Lawful L) (r : L.Rows) (h : History) → Agrees L laws r h → live_count h ≡ L.used r
live_used L laws r h a = laws.used_by_counts r a.sound (keep (is_live h) (distinct same_pair (pairs h))) (λ t o. live_tally h t o ∙ ap (λ (s : Announced). bit (is_announced s)) (sym (a.same t o)))
