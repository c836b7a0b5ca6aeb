-- The layout before, first fit, has the laws that the list theorem needs, where a search for OID 0, which would meet a free row, finds nothing;
-- and no message that was read names OID 0, so that the two answer alike. Assumes nothing.
use mathlib.Core.Path.{◌≡◌, refl, sym, ◌∙◌, ap, ap₂}
use mathlib.Core.List.{List, [], ◌∷◌}
use mathlib.Core.Bool.{Bool, true, false, cond, not, ◌||◌, ◌&&◌, true≢false}
use Prim.Native.Nat.{ℕ, zero, suc, ◌+◌}
use native.Mathlib.Omega.{arith}
use lib.Dec.{eqb, leb}
use lib.ListN.{length, replicate}
use borrow.Author.Tests.{ne_eqb, eqb-true, eqb-false, le-leb, lt-leb}
use Rattle.wire.specs.Lists.{Pair, pair, same_pair, any, tally, keep, change}
use Rattle.catalog.proofs.Counting.{bit, any-tally, none-tally, tally_bit, length_by_counts}
use Rattle.catalog.proofs.Tables.{same_eq, same_refl}
use Rattle.session.specs.FirstFit.{Row, row, key_is, is_free, is_used, found_in, lookup_in, free_row, released, first_fit, put_row, dropped}
use Rattle.message.specs.declared.Version.{Version}
use Rattle.message.specs.declared.Message.{Message}
use Rattle.message.specs.Messages.{Read}
use Rattle.std.specs.Prelude.{Ok, Err}
use Rattle.message.specs.Messages.{read_message}
use Rattle.session.specs.declared.Place.{Place}
use Rattle.session.specs.declared.Place.TheVariants.{Idle, Transaction, Block}
use Rattle.session.specs.Answers.{Answer}
use Rattle.session.specs.Events.{Event, Begin, Commit, Origin, Relation, Change, Truncate, Neutral, Logical, StreamStart, StreamStop, StreamCommit, StreamAbort, event_of}
use Rattle.session.specs.History.{Announced, unannounced, announced, is_announced, or_else, Given, given, is_idle, in_block, holder_at}
use Rattle.session.specs.Rules.{visible_at, visible, test, shaped, all_seen, first_seen, rule_relation, rule_change, accepts, heard_of}
use Rattle.session.specs.State.{Layout, StateOf, sight_by, answer_by, table_by, state_by, flag_after, streams_after}
use Rattle.session.specs.History.{place_after}
use Rattle.session.specs.Layouts.{answer_heard, state_heard, run_by}
use Rattle.session.proofs.Formed.{NonZero, Id}
use Rattle.session.proofs.Named.{AllNonZero, Named, read_named_lem}
use Rattle.session.proofs.Lawful.{Lawful}
use Rattle.session.proofs.FirstFitLaws as law
use Rattle.session.proofs.FirstFitLaws.{Table}

found_any : (p : Row → Bool) (l : List Row) → any p l ≡ is_announced (lookup_in p l)
found_any p [] = refl
found_any p (a ∷ l) = go (p a) (found_any p l)
  where
    go : (v : Bool) → any p l ≡ is_announced (lookup_in p l) → v || any p l ≡ is_announced (cond v (found_in a) (lookup_in p l))
    go true r = refl
    go false r = r

abbrev found : List Row → ℕ → ℕ → Announced
found l t o = cond (eqb o 0) unannounced (lookup_in (key_is t o) l)

abbrev pub guarded : Layout
guarded = record {
  Rows = List Row;
  none = replicate 256 free_row;
  find = found;
  used = first_fit.used;
  put = first_fit.put;
  discard = first_fit.discard;
  release = first_fit.release;
}

-- by cases of an OID that is 0, or not
by_oid : (P : Announced → Announced → Announced → Type 0) (l l' : List Row) (x u o : ℕ) → (NonZero o → P (lookup_in (key_is u o) l') (lookup_in (key_is x o) l) (lookup_in (key_is u o) l))
    → (o ≡ 0 → P unannounced unannounced unannounced) → P (found l' u o) (found l x o) (found l u o)
by_oid P l l' x u o some none = go (eqb o 0) refl
  where
    go : (v : Bool) → eqb o 0 ≡ v → P (cond v unannounced (lookup_in (key_is u o) l')) (cond v unannounced (lookup_in (key_is x o) l)) (cond v unannounced (lookup_in (key_is u o) l))
    go true e = none (eqb-true o 0 e)
    go false e = some (eqb-false o 0 e)

missing : (v : Bool) → ◌≡◌ {A = Announced} (cond v unannounced unannounced) unannounced
missing true = refl
missing false = refl

fresh_found : (n t o : ℕ) → NonZero o → lookup_in (key_is t o) (replicate n free_row) ≡ unannounced
fresh_found zero t o z = refl
fresh_found (suc n) t o z = rw (law.free_row_lem t o z) (fresh_found n t o z)

fresh_tally : (n t o : ℕ) → NonZero o → tally (key_is t o) (replicate n free_row) ≡ 0
fresh_tally zero t o z = refl
fresh_tally (suc n) t o z = rw (law.free_row_lem t o z, fresh_tally n t o z)

fresh_table_lem : Table (replicate 256 free_row)
fresh_table_lem = record { room = refl; once = λ t o z. rw (fresh_tally 256 t o z) (omega arith) }

-- THE ROOM: rows are in use as long as one is free, and 256 when none is

free_or_used : (l : List Row) → length (keep is_used l) + tally is_free l ≡ length l
free_or_used [] = refl
free_or_used (r ∷ l) = go (eqb r.oid 0) (free_or_used l)
  where
    go : (v : Bool) → length (keep is_used l) + tally is_free l ≡ length l → length (cond (not v) (r ∷ keep is_used l) (keep is_used l)) + (cond v 1 0 + tally is_free l) ≡ suc (length l)
    go true q = omega arith
    go false q = omega arith

pub used_full : (l : List Row) → Table l → leb 256 (length (keep is_used l)) ≡ not (any is_free l)
used_full l a = go (any is_free l) refl
  where
    go : (v : Bool) → any is_free l ≡ v → leb 256 (length (keep is_used l)) ≡ not v
    go true e = let k = any-tally is_free l e in let f = free_or_used l in let r = a.room in lt-leb 256 (length (keep is_used l)) (omega arith)
    go false e = let k = none-tally is_free l e in let f = free_or_used l in let r = a.room in le-leb 256 (length (keep is_used l)) (omega arith)

-- an OID that is not 0 is looked for
look : (l : List Row) (t o : ℕ) → NonZero o → found l t o ≡ lookup_in (key_is t o) l
look l t o z = rw (ne_eqb o 0 z)

module _ (l : List Row) (a : Table l) where
  -- AN ANNOUNCEMENT
  module _ (x n g i c : ℕ) (z : Id n) (room : is_announced (found l x n) ≡ false → leb 256 (length (keep is_used l)) ≡ false) where
    free : any (key_is x n) l ≡ false → any is_free l ≡ true
    free e = go (any is_free l) refl
      where
        go : (v : Bool) → any is_free l ≡ v → v ≡ true
        go true w = refl
        go false w = absurd (true≢false (sym (used_full l a ∙ ap not w) ∙ room (ap is_announced (look l x n z.0) ∙ sym (found_any (key_is x n) l) ∙ e)))

    put_sound : Table (put_row (row x n g i c) l)
    put_sound = law.put-table (row x n g i c) l free a

    put-latest : (t o : ℕ) → found (put_row (row x n g i c) l) t o ≡ cond (eqb x t && eqb n o) (announced g i c) (found l t o)
    put-latest t o =
        by_oid (λ after mine was. after ≡ cond (eqb x t && eqb n o) (announced g i c) was) l (put_row (row x n g i c) l) x t o
        (λ y. law.put_found (row x n g i c) l free t o y)
        (λ e. rw (ne_eqb n o (λ q. z.0 (q ∙ e))) (never (eqb x t)))
      where
        never : (v : Bool) → unannounced ≡ cond (v && false) (announced g i c) unannounced
        never true = refl
        never false = refl

  drop-latest : (x t o : ℕ) → found (change (dropped x) l) t o ≡ cond (eqb x t) unannounced (found l t o)
  drop-latest x t o =
      by_oid (λ after mine was. after ≡ cond (eqb x t) unannounced was) l (change (dropped x) l) x t o (λ y. law.drop_found x l t o y) (λ e. sym (missing (eqb x t)))

  release-latest : (x : ℕ) → NonZero x → (t o : ℕ)
      → found (change (released x l) l) t o ≡ cond (eqb t 0) (or_else (found l x o) (found l t o)) (cond (eqb x t) unannounced (found l t o))
  release-latest x nz t o =
      by_oid (λ after mine was. after ≡ cond (eqb t 0) (or_else mine was) (cond (eqb x t) unannounced was)) l (change (released x l) l) x t o
      (λ y. go y (eqb t 0) (eqb x t) refl refl)
      (λ e. sym (none (eqb t 0) (eqb x t)))
    where
      none : (v w : Bool) → cond v (or_else unannounced unannounced) (cond w unannounced unannounced) ≡ unannounced
      none true w = refl
      none false w = missing w

      or_has : (s b : Announced) (v : Bool) → v ≡ is_announced s → cond v s b ≡ or_else s b
      or_has unannounced b v e = rw e
      or_has (announced g i c) b v e = rw e

      common : NonZero o → (v : Bool) → any (key_is x o) l ≡ v → lookup_in (key_is 0 o) (change (released x l) l) ≡ cond v (lookup_in (key_is x o) l) (lookup_in (key_is 0 o) l)
      common y true e = law.release-common x l nz o y e
      common y false e = law.release-kept x l nz o y e

      go : NonZero o → (v w : Bool) → eqb t 0 ≡ v → eqb x t ≡ w
          → lookup_in (key_is t o) (change (released x l) l) ≡ cond v (or_else (lookup_in (key_is x o) l) (lookup_in (key_is t o) l)) (cond w unannounced (lookup_in (key_is t o) l))
      go y true w ev ew =
          rw (eqb-true t 0 ev)
          (common y (any (key_is x o) l) refl ∙ or_has (lookup_in (key_is x o) l) (lookup_in (key_is 0 o) l) (any (key_is x o) l) (found_any (key_is x o) l))
      go y false true ev ew = rw (← eqb-true x t ew) (law.release-own x l nz o y)
      go y false false ev ew = law.release_other x l nz t o y ev ew

-- HOW MANY

abbrev row_pairs : List Row → List Pair
row_pairs [] = []
row_pairs (r ∷ l) = pair r.holder r.oid ∷ row_pairs l

row_pairs_length : (l : List Row) → length (row_pairs l) ≡ length l
row_pairs_length [] = refl
row_pairs_length (r ∷ l) = ap suc (row_pairs_length l)

row_pairs_tally : (t o : ℕ) (l : List Row) → tally (same_pair (pair t o)) (row_pairs (keep is_used l)) ≡ cond (eqb o 0) 0 (tally (key_is t o) l)
row_pairs_tally t o [] = zeros (eqb o 0)
  where
    zeros : (v : Bool) → ◌≡◌ {A = ℕ} 0 (cond v 0 0)
    zeros true = refl
    zeros false = refl
row_pairs_tally t o (r ∷ l) = go (eqb r.oid 0) refl (row_pairs_tally t o l)
  where
    and_false : (b : Bool) → b && false ≡ false
    and_false true = refl
    and_false false = refl

    -- a free row: no key that is one
    freed : (v : Bool) → eqb o 0 ≡ v → r.oid ≡ 0 → cond v 0 (tally (key_is t o) l) ≡ cond v 0 (cond (key_is t o r) 1 0 + tally (key_is t o) l)
    freed true w e = refl
    freed false w e = rw (e, ne_eqb 0 o (λ q. eqb-false o 0 w (sym q)), and_false (eqb r.holder t)) (omega arith)

    -- a row in use
    taken : (v : Bool) → eqb o 0 ≡ v → NonZero r.oid → cond (key_is t o r) 1 0 + cond v 0 (tally (key_is t o) l) ≡ cond v 0 (cond (key_is t o r) 1 0 + tally (key_is t o) l)
    taken true w e = rw (ne_eqb r.oid o (λ q. e (q ∙ eqb-true o 0 w)), and_false (eqb r.holder t))
    taken false w e = refl

    go : (v : Bool) → eqb r.oid 0 ≡ v → tally (same_pair (pair t o)) (row_pairs (keep is_used l)) ≡ cond (eqb o 0) 0 (tally (key_is t o) l)
        → tally (same_pair (pair t o)) (row_pairs (cond (not v) (r ∷ keep is_used l) (keep is_used l))) ≡ cond (eqb o 0) 0 (cond (key_is t o r) 1 0 + tally (key_is t o) l)
    go true w q = q ∙ freed (eqb o 0) refl (eqb-true r.oid 0 w)
    go false w q = ap (λ (n : ℕ). cond (key_is t o r) 1 0 + n) q ∙ taken (eqb o 0) refl (eqb-false r.oid 0 w)

used_by_counts : (r : List Row) → Table r → (l : List Pair) → ((t o : ℕ) → tally (same_pair (pair t o)) l ≡ bit (is_announced (found r t o))) → length l ≡ length (keep is_used r)
used_by_counts r a l counts = length_by_counts same_pair same_eq same_refl l (row_pairs (keep is_used r)) same ∙ row_pairs_length (keep is_used r)
  where
    here : (t o : ℕ) (v : Bool) → eqb o 0 ≡ v → bit (is_announced (cond v unannounced (lookup_in (key_is t o) r))) ≡ cond v 0 (tally (key_is t o) r)
    here t o true e = refl
    here t o false e = sym (tally_bit (key_is t o) r (a.once t o (eqb-false o 0 e)) ∙ ap bit (found_any (key_is t o) r))

    same : (x : Pair) → tally (same_pair x) l ≡ tally (same_pair x) (row_pairs (keep is_used r))
    same (pair t o) = counts t o ∙ here t o (eqb o 0) refl ∙ sym (row_pairs_tally t o r)

pub guarded_lawful : Lawful guarded
guarded_lawful = record {
  Sound = Table;
  fresh_sound = fresh_table_lem;
  fresh_latest = λ t o. by_oid (λ after mine was. after ≡ unannounced) (replicate 256 free_row) (replicate 256 free_row) t t o (λ z. fresh_found 256 t o z) (λ e. refl);
  put_sound = put_sound;
  put-latest = put-latest;
  drop_sound = λ r a x. law.drop-table x r a;
  drop-latest = drop-latest;
  release_sound = λ r a x z. law.release-table x r z a;
  release-latest = release-latest;
  used_by_counts = used_by_counts;
}

-- WITHOUT THE GUARD: the answers to messages that were read

module _ (s : StateOf (List Row)) where
  plain_visible : (o : ℕ) → NonZero o → visible (sight_by guarded s) o ≡ visible (sight_by first_fit s) o
  plain_visible o z = go s.place
    where
      go : (p : Place) → visible_at p (λ t. found s.table t o) ≡ visible_at p (λ t. lookup_in (key_is t o) s.table)
      go Idle = refl
      go (Transaction l) = look s.table 0 o z
      go (Block x) = ap₂ or_else (look s.table x o z) (look s.table 0 o z)

  plain_all : (os : List ℕ) → AllNonZero os → all_seen (visible (sight_by guarded s)) os ≡ all_seen (visible (sight_by first_fit s)) os
  plain_all [] z = refl
  plain_all (o ∷ os) z = ap₂ (λ (x : Announced) (v : Bool). is_announced x && v) (plain_visible o z.0) (plain_all os z.1)

  plain_first : (os : List ℕ) → AllNonZero os → first_seen (visible (sight_by guarded s)) os ≡ first_seen (visible (sight_by first_fit s)) os
  plain_first [] z = refl
  plain_first (o ∷ os) z = plain_visible o z.0

  plain_answer : (e : Event) → Named e → answer_by guarded s e ≡ answer_by first_fit s e
  plain_answer (Begin l x) z = refl
  plain_answer (Commit l) z = refl
  plain_answer Origin z = refl
  plain_answer (Relation o i c) z =
      ap (λ (k : Announced). rule_relation s.place (is_announced k) (leb 256 (length (keep is_used s.table)))) (look s.table (holder_at s.place) o z)
  plain_answer (Change x o ts) z = ap (λ (k : Announced). rule_change s.place k ts) (plain_visible o z)
  plain_answer (Truncate x os) z =
      ap₂ (λ (v : Bool) (k : Announced). test (not (is_idle s.place)) 7 (test v 9 (shaped k []))) (plain_all os z) (plain_first os z)
  plain_answer Neutral z = refl
  plain_answer (Logical v) z = refl
  plain_answer (StreamStart x first) z = refl
  plain_answer StreamStop z = refl
  plain_answer (StreamCommit x) z = refl
  plain_answer (StreamAbort x sub) z = refl

  plain_table : (e : Event) (g : ℕ) → table_by guarded e g s.place s.table ≡ table_by first_fit e g s.place s.table
  plain_table (Begin l x) g = refl
  plain_table (Commit l) g = refl
  plain_table Origin g = refl
  plain_table (Relation o i c) g = refl
  plain_table (Change x o ts) g = refl
  plain_table (Truncate x os) g = refl
  plain_table Neutral g = refl
  plain_table (Logical v) g = refl
  plain_table (StreamStart x first) g = refl
  plain_table StreamStop g = refl
  plain_table (StreamCommit x) g = refl
  plain_table (StreamAbort x sub) g = refl

  abbrev moved : Event → List Row → StateOf (List Row)
  moved e l = record { place = place_after e s.place; changed = flag_after e s.place s.changed; streams = streams_after e s.place s.streams; table = l }

  plain_state : (e : Event) (g : ℕ) → state_by guarded s e g ≡ state_by first_fit s e g
  plain_state e g = ap (moved e) (plain_table e g)

pub plain_run : (v : Version) (l : List Given) (s : StateOf (List Row)) → run_by guarded v s l ≡ run_by first_fit v s l
unfolding run_by
plain_run v [] s = refl
plain_run v (given xs g ∷ l) s = one (read_message v (in_block s.place) xs) (λ m q. read_named_lem (in_block s.place) xs v m q) (plain_run v l)
  where
    step : ((s : StateOf (List Row)) → run_by guarded v s l ≡ run_by first_fit v s l) → (x y : Answer) → x ≡ y → (n m : StateOf (List Row)) → n ≡ m
        → x ∷ run_by guarded v (cond (accepts x) n s) l ≡ y ∷ run_by first_fit v (cond (accepts y) m s) l
    step r x y ex n m en = rw (ex, en) (ap (λ (t : List Answer). y ∷ t) (r (cond (accepts y) m s)))

    one : (r : Read) → ((m : Message) → r ≡ Ok m → Named (event_of m xs)) → ((s : StateOf (List Row)) → run_by guarded v s l ≡ run_by first_fit v s l)
        → answer_heard guarded s (heard_of r xs) ∷ run_by guarded v (state_heard guarded s (heard_of r xs) g) l
        ≡ answer_heard first_fit s (heard_of r xs) ∷ run_by first_fit v (state_heard first_fit s (heard_of r xs) g) l
    one (Err k) f r = ap (λ (t : List Answer). answer_heard first_fit s (heard_of (Err k) xs) ∷ t) (r s)
    one (Ok m) f r =
        step r (answer_by guarded s (event_of m xs)) (answer_by first_fit s (event_of m xs)) (plain_answer s (event_of m xs) (f m refl)) (state_by guarded s (event_of m xs) g) (state_by first_fit s (event_of m xs) g)
        (plain_state s (event_of m xs) g)
