-- In a block the rooms only fill, so where a message was accepted and the rooms hold out behind it, it is accepted from every history that is alike at x. Assumes nothing.
use mathlib.Core.Path.{◌≡◌, refl, sym, ◌∙◌, ap, ap₂, fun_ext}
use mathlib.Core.List.{List, [], ◌∷◌}
use mathlib.Core.Bool.{Bool, true, false, cond, not, ◌||◌, ◌&&◌}
use Prim.Native.Nat.{ℕ, suc, ◌+◌, ◌≤◌}
use native.Mathlib.Omega.{arith}
use lib.Dec.{eqb, leb}
use borrow.Author.Tests.{eqb-true, lt-leb}
use Rattle.wire.specs.Lists.{tally, keep, distinct, Pair, pair, same_pair}
use Rattle.catalog.specs.Table.{is}
use Rattle.catalog.proofs.Opens as open-law
use Rattle.catalog.proofs.Opens.{is_eq, is_refl}
use Rattle.catalog.proofs.Tables as table-law
use Rattle.catalog.proofs.Tables.{same_eq, same_refl}
use Rattle.catalog.proofs.Counting.{bit, length_by_counts}
use Rattle.session.specs.declared.Place.{Place}
use Rattle.session.specs.declared.Place.TheVariants.{Idle, Block}
use Rattle.session.specs.Answers as answer
use Rattle.session.specs.Events.{Event, Origin, Relation, Change, Truncate, Neutral, Logical, StreamStart, StreamStop}
use Rattle.session.specs.History.{Announced, is_announced, or_else, Given, entry, Entry, History, shown, place, is_open, started, open_count, common, latest, pairs, is_live, live_count}
use Rattle.session.specs.Rules.{rooms, sight_of, visible, rule_origin, rule_change, rule_truncate, rule_neutral, rule_logical, rule_stream_stop, judge, accepts}
use Rattle.session.specs.State.{State, sorted}
use Rattle.session.proofs.Formed.{NonZero}
use Rattle.session.proofs.Streams as Streams
use Rattle.session.proofs.Streams.{open_tally}
use Rattle.session.proofs.Lawful.{sorted_lawful, sorted_sound}
use Rattle.session.proofs.Live.{live_tally, live_used}
use Rattle.session.proofs.Agreement.{latest-relation, start_accepted, relation_accepted}
use Rattle.session.proofs.Runs.{Agrees}
use Rattle.session.proofs.Alike.{AlikeAt, Alike, same_opens, same_lives, same-latest, alike_opens, alike_lives}
use Rattle.session.proofs.Stays.{Inner, origin, relation, change, truncate, neutral, logical, stop, Turn, starts, goes, onto, Along}

-- THE ROOMS HOLD OUT
pub record Within (h : History) : Type 0 where
  pub streams : open_count h ≤ 16
  pub announcements : live_count h ≤ 256

-- of every history that some record agrees with
pub agreed_within : (s : State) (h : History) → Agrees s h → Within h
agreed_within s h a = record {
  streams = omega (arith, Streams.same_count s.streams h a.streams, open-law.few_open s.streams);
  announcements = omega (arith, live_used sorted sorted_lawful s.table h a.table, table-law.few_used s.table (sorted_sound s.table a.table.sound));
}

pub within_alike : {h k : History} → Alike h k → Within h → Within k
within_alike a w = record { streams = omega (arith, alike_opens a, w.streams); announcements = omega (arith, alike_lives a, w.announcements) }

-- ONE MORE: an S that opens x, and an R that makes a new pair of x

one_opens : (x : ℕ) (first : Bool) (g : Given) (h : History) → is_open h x ≡ false → open_count (entry (StreamStart x first) g ∷ h) ≡ suc (open_count h)
one_opens x first g h shut =
    length_by_counts is is_eq is_refl (listed h') (x ∷ listed h) (λ t. open_tally h' t ∙ go t (eqb x t) refl ∙ ap (λ (n : ℕ). cond (eqb x t) 1 0 + n) (sym (open_tally h t)))
  where
    h' : History
    h' = entry (StreamStart x first) g ∷ h

    listed : History → List ℕ
    listed k = keep (is_open k) (distinct is (started k))

    go : (t : ℕ) (v : Bool) → eqb x t ≡ v → bit (eqb x t || is_open h t) ≡ cond (eqb x t) 1 0 + bit (is_open h t)
    go t true e = let s : is_open h t ≡ false = rw (eqb-true x t e) at shut in rw (e, s)
    go t false e = rw e (omega arith)

module _ (x : ℕ) (nz : NonZero x) (h : History) (p : place h ≡ Block x) (n i c : ℕ) (g : Given) where
  abbrev announced' : History
  announced' = entry (Relation n i c) g ∷ h

  -- which pairs are live then
  live_then : (t o : ℕ) → is_announced (latest announced' t o) ≡ (eqb x t && eqb n o) || is_announced (latest h t o)
  live_then t o = ap is_announced (latest-relation h n i c g (Block x) p refl nz t o) ∙ go (eqb x t && eqb n o)
    where
      go : (v : Bool) → is_announced (cond v (shown g i c) (latest h t o)) ≡ v || is_announced (latest h t o)
      go true = refl
      go false = refl

  one_lives : is_announced (latest h x n) ≡ false → live_count announced' ≡ suc (live_count h)
  one_lives new = length_by_counts same_pair same_eq same_refl (listed announced') (pair x n ∷ listed h) each
    where
      listed : History → List Pair
      listed k = keep (is_live k) (distinct same_pair (pairs k))

      go : (t o : ℕ) (u v : Bool) → eqb x t ≡ u → eqb n o ≡ v → bit ((eqb x t && eqb n o) || is_announced (latest h t o)) ≡ cond (eqb x t && eqb n o) 1 0 + bit (is_announced (latest h t o))
      go t o true true eu ev = let s : is_announced (latest h t o) ≡ false = rw (eqb-true x t eu, eqb-true n o ev) at new in rw (eu, ev, s)
      go t o true false eu ev = rw (eu, ev) (omega arith)
      go t o false v eu ev = rw eu (omega arith)

      each : (q : Pair) → tally (same_pair q) (listed announced') ≡ tally (same_pair q) (pair x n ∷ listed h)
      each (pair t o) =
          live_tally announced' t o ∙ ap bit (live_then t o) ∙ go t o (eqb x t) (eqb n o) refl refl
          ∙ ap (λ (m : ℕ). cond (eqb x t && eqb n o) 1 0 + m) (sym (live_tally h t o))

  lives_again : is_announced (latest h x n) ≡ true → live_count announced' ≡ live_count h
  lives_again old = same_lives announced' h (λ t o. live_then t o ∙ go t o (eqb x t) (eqb n o) refl refl)
    where
      go : (t o : ℕ) (u v : Bool) → eqb x t ≡ u → eqb n o ≡ v → (eqb x t && eqb n o) || is_announced (latest h t o) ≡ is_announced (latest h t o)
      go t o true true eu ev = let s : is_announced (latest h t o) ≡ true = rw (eqb-true x t eu, eqb-true n o ev) at old in rw (eu, ev, s)
      go t o true false eu ev = rw (eu, ev)
      go t o false v eu ev = rw eu

-- IN A BLOCK THE ROOMS ONLY FILL

unmoved : (h k : History) → ((t : ℕ) → is_open h t ≡ is_open k t) → ((t o : ℕ) → is_announced (latest h t o) ≡ is_announced (latest k t o)) → Within k → Within h
unmoved h k op li w = record { streams = omega (arith, same_opens h k op, w.streams); announcements = omega (arith, same_lives h k li, w.announcements) }

module _ (x : ℕ) (nz : NonZero x) where
  inner_fills : (h : History) (g : Given) → place h ≡ Block x → {e : Event} → Inner e → Within (entry e g ∷ h) → Within h
  inner_fills h g p origin w = unmoved h (entry Origin g ∷ h) (λ t. refl) (λ t o. refl) w
  inner_fills h g p (relation {o} {i} {c}) w = record { streams = omega (arith, same_opens h (entry (Relation o i c) g ∷ h) (λ t. refl), w.streams); announcements = go (is_announced (latest h x o)) refl }
    where
      go : (v : Bool) → is_announced (latest h x o) ≡ v → live_count h ≤ 256
      go true e = omega (arith, lives_again x nz h p o i c g e, w.announcements)
      go false e = omega (arith, one_lives x nz h p o i c g e, w.announcements)
  inner_fills h g p (change {y} {o} {ts}) w = unmoved h (entry (Change y o ts) g ∷ h) (λ t. refl) (λ t o. refl) w
  inner_fills h g p (truncate {y} {os}) w = unmoved h (entry (Truncate y os) g ∷ h) (λ t. refl) (λ t o. refl) w
  inner_fills h g p neutral w = unmoved h (entry Neutral g ∷ h) (λ t. refl) (λ t o. refl) w
  inner_fills h g p (logical {b}) w = unmoved h (entry (Logical b) g ∷ h) (λ t. refl) (λ t o. refl) w
  inner_fills h g p stop w = unmoved h (entry StreamStop g ∷ h) (λ t. refl) (λ t o. refl) w

  turn_fills : (h : History) (g : Given) {e : Event} → Turn x h e → Within (entry e g ∷ h) → Within h
  turn_fills h g (starts {first} p) w = record { streams = go (is_open h x) refl; announcements = omega (arith, same_lives h (entry (StreamStart x first) g ∷ h) (λ t o. refl), w.announcements) }
    where
      already : is_open h x ≡ true → (t : ℕ) (v : Bool) → eqb x t ≡ v → is_open h t ≡ eqb x t || is_open h t
      already e t true q = let s : is_open h t ≡ true = rw (eqb-true x t q) at e in rw (q, s)
      already e t false q = rw q

      go : (v : Bool) → is_open h x ≡ v → open_count h ≤ 16
      go true e = omega (arith, same_opens h (entry (StreamStart x first) g ∷ h) (λ t. already e t (eqb x t) refl), w.streams)
      go false e = omega (arith, one_opens x first g h e, w.streams)
  turn_fills h g (goes p i) w = inner_fills h g p i w

  pub along_fills : (es : List Entry) (h : History) → Along x es h → Within (onto es h) → Within h
  along_fills [] h a w = w
  along_fills (entry e g ∷ es) h a w = turn_fills h g a.0 (along_fills es (entry e g ∷ h) a.1 w)

-- THE SAME ANSWER

opens : (x : ℕ) (first : Bool) (h : History) → place h ≡ Idle → is_open h x ≡ not first → (first ≡ true → leb 16 (open_count h) ≡ false) → judge rooms h (StreamStart x first) ≡ answer.Accepted
opens x true h p e r = rw (p, e, r refl)
opens x false h p e r = rw (p, e)

announces : (x : ℕ) (h : History) → place h ≡ Block x → (n i c : ℕ) → (is_announced (latest h x n) ≡ false → leb 256 (live_count h) ≡ false) → judge rooms h (Relation n i c) ≡ answer.Accepted
announces x h p n i c r = go (is_announced (latest h x n)) refl
  where
    go : (v : Bool) → is_announced (latest h x n) ≡ v → judge rooms h (Relation n i c) ≡ answer.Accepted
    go true e = rw (p, e)
    go false e = rw (p, e, r e)

-- from two histories that are alike at x, where the rooms hold out behind the second
module _ (x : ℕ) (nz : NonZero x) (h k : History) (g : Given) (a : AlikeAt x h k) (c : (o : ℕ) → common h o ≡ common k o) where
  latest_there : (o : ℕ) → latest h x o ≡ latest k x o
  latest_there o = same-latest h k x o (a.mine o) (c o)

  seen : place h ≡ Block x → place k ≡ Block x → (o : ℕ) → visible (sight_of h) o ≡ visible (sight_of k) o
  seen p q o = rw (p, q) (ap₂ or_else (latest_there o) (c o))

  inner_same : place h ≡ Block x → place k ≡ Block x → {e : Event} → Inner e → accepts (judge rooms h e) ≡ true → Within (entry e g ∷ k) → judge rooms h e ≡ judge rooms k e
  inner_same p q origin ok w = rw (p, q) (ap (rule_origin (Block x)) a.changed)
  inner_same p q (relation {o} {i} {c = n}) ok w =
      announces x h p o i n (relation_accepted (Block x) (is_announced (latest h x o)) (leb 256 (live_count h)) (rw p at ok))
      ∙ sym (announces x k q o i n (λ e. lt-leb 256 (live_count k) (omega (arith, one_lives x nz k q o i n g e, w.announcements))))
  inner_same p q (change {y} {o} {ts}) ok w = ap₂ (λ (r : Place) (s : Announced). rule_change r s ts) (p ∙ sym q) (seen p q o)
  inner_same p q (truncate {y} {os}) ok w = ap₂ (λ (r : Place) (s : ℕ → Announced). rule_truncate r s os) (p ∙ sym q) (fun_ext (seen p q))
  inner_same p q neutral ok w = ap rule_neutral (p ∙ sym q)
  inner_same p q (logical {b}) ok w = ap (λ (r : Place). rule_logical r b) (p ∙ sym q)
  inner_same p q stop ok w = ap rule_stream_stop (p ∙ sym q)

  -- the place at which a message of a block of x stands
  abbrev stands_at : Event → Place → Type 0
  stands_at (StreamStart y first) q = q ≡ Idle
  stands_at e q = q ≡ Block x

  stands : {e : Event} → Turn x k e → stands_at e (place k)
  stands (starts q) = q
  stands (goes q origin) = q
  stands (goes q relation) = q
  stands (goes q change) = q
  stands (goes q truncate) = q
  stands (goes q neutral) = q
  stands (goes q logical) = q
  stands (goes q stop) = q

  within_block : {e : Event} → Inner e → stands_at e (place k) → place k ≡ Block x
  within_block origin q = q
  within_block relation q = q
  within_block change q = q
  within_block truncate q = q
  within_block neutral q = q
  within_block logical q = q
  within_block stop q = q

  same_there : {e : Event} → Turn x h e → stands_at e (place k) → accepts (judge rooms h e) ≡ true → Within (entry e g ∷ k) → judge rooms h e ≡ judge rooms k e
  same_there (starts {first} p) q ok w =
      let s = start_accepted (place h) first (is_open h x) (leb 16 (open_count h)) ok in
      let shut : is_open k x ≡ not first = sym a.opened ∙ s.0 in
      opens x first h p s.0 s.1
      ∙ sym (opens x first k q shut (λ e. lt-leb 16 (open_count k) (omega (arith, one_opens x first g k (shut ∙ ap not e), w.streams))))
  same_there (goes p n) q ok w = inner_same p (within_block n q) n ok w

  pub turn_same : {e : Event} → Turn x h e → Turn x k e → accepts (judge rooms h e) ≡ true → Within (entry e g ∷ k) → judge rooms h e ≡ judge rooms k e
  turn_same s t ok w = same_there s (stands t) ok w
