-- To be believed (demand 3). HISTORY (document 01): the messages accepted so far, and what they say. No record, no table and no rule is known here.
use Rattle.std.specs.Prelude.{ℕ, List, [], ◌∷◌, Bool, true, false, cond, not, ◌||◌, ◌&&◌, eqb, length}
use Rattle.wire.specs.Lists.{keep, distinct, Pair, pair, same_pair}
use Rattle.session.specs.declared.Place.{Place}
use Rattle.session.specs.declared.Place.TheVariants.{Idle, Transaction, Block}
use Rattle.session.specs.Events.{Event, Begin, Commit, Origin, Relation, Change, Truncate, Neutral, Logical, StreamStart, StreamStop, StreamCommit, StreamAbort}

-- a message as it is given: its bytes, and a tag of the caller's own
pub data Given : Type 0 where
  given : (bytes : List ℕ) (tag : ℕ) → Given

abbrev pub bytes_of : Given → List ℕ
bytes_of (given xs g) = xs

abbrev pub tag_of : Given → ℕ
tag_of (given xs g) = g

-- an accepted message, and the message as it was given
pub data Entry : Type 0 where
  entry : (event : Event) (given : Given) → Entry

-- HISTORY: the messages accepted so far, newest first.
-- Each thing that history says is given by what it said before its newest message: the functions named `..After`
abbrev pub History : Type 0
History = List Entry

-- WHERE HISTORY STANDS

-- idle, in a transaction (from B to C: with that Begin's final LSN), or in a block (from S to E: with the S's xid)
abbrev pub place_after : Event → Place → Place
place_after (Begin lsn x) p = Transaction lsn
place_after (Commit lsn) p = Idle
place_after Origin p = p
place_after (Relation o i c) p = p
place_after (Change x o ts) p = p
place_after (Truncate x os) p = p
place_after Neutral p = p
place_after (Logical v) p = p
place_after (StreamStart x first) p = Block x
place_after StreamStop p = Idle
place_after (StreamCommit x) p = p
place_after (StreamAbort x sub) p = p

abbrev pub place : History → Place
place [] = Idle
place (entry e g ∷ h) = place_after e (place h)

abbrev pub is_idle : Place → Bool
is_idle Idle = true
is_idle (Transaction lsn) = false
is_idle (Block x) = false

abbrev pub in_transaction : Place → Bool
in_transaction Idle = false
in_transaction (Transaction lsn) = true
in_transaction (Block x) = false

abbrev pub in_block : Place → Bool
in_block Idle = false
in_block (Transaction lsn) = false
in_block (Block x) = true

-- the final LSN of the Begin of a transaction
abbrev pub final_lsn : Place → ℕ
final_lsn Idle = 0
final_lsn (Transaction lsn) = lsn
final_lsn (Block x) = 0

-- THE HOLDER of what is announced at a place: in a block of T it is T, given by its xid; else it is 0, "common" (no xid is 0)
abbrev pub holder_at : Place → ℕ
holder_at Idle = 0
holder_at (Transaction lsn) = 0
holder_at (Block x) = x

-- STREAMED TRANSACTIONS

-- t is open from its first S until its c, or its A with sub-xid equal to xid
abbrev pub open_after : Event → ℕ → Bool → Bool
open_after (Begin lsn x) t was = was
open_after (Commit lsn) t was = was
open_after Origin t was = was
open_after (Relation o i c) t was = was
open_after (Change x o ts) t was = was
open_after (Truncate x os) t was = was
open_after Neutral t was = was
open_after (Logical v) t was = was
open_after (StreamStart x first) t was = eqb x t || was
open_after StreamStop t was = was
open_after (StreamCommit x) t was = not (eqb x t) && was
open_after (StreamAbort x sub) t was = not (eqb x sub && eqb x t) && was

abbrev pub is_open : History → ℕ → Bool
is_open [] t = false
is_open (entry e g ∷ h) t = open_after e t (is_open h t)

-- every xid that an S named
abbrev pub started_after : Event → List ℕ → List ℕ
started_after (Begin lsn x) xs = xs
started_after (Commit lsn) xs = xs
started_after Origin xs = xs
started_after (Relation o i c) xs = xs
started_after (Change x o ts) xs = xs
started_after (Truncate x os) xs = xs
started_after Neutral xs = xs
started_after (Logical v) xs = xs
started_after (StreamStart x first) xs = x ∷ xs
started_after StreamStop xs = xs
started_after (StreamCommit x) xs = xs
started_after (StreamAbort x sub) xs = xs

abbrev pub started : History → List ℕ
started [] = []
started (entry e g ∷ h) = started_after e (started h)

-- how many streamed transactions are open: the distinct xids of those
abbrev pub open_count : History → ℕ
open_count h = length (keep (is_open h) (distinct (λ x y. eqb y x) (started h)))

-- CHANGES

-- whether a change (I, U, D or T) was accepted in a transaction since it opened, rolled back or not:
-- t is a streamed transaction's xid, or 0 for the one between B and C
abbrev pub changed_after : Event → Place → ℕ → Bool → Bool
changed_after (Begin lsn x) p t was = not (eqb t 0) && was
changed_after (Commit lsn) p t was = was
changed_after Origin p t was = was
changed_after (Relation o i c) p t was = was
changed_after (Change x o ts) p t was = eqb (holder_at p) t || was
changed_after (Truncate x os) p t was = eqb (holder_at p) t || was
changed_after Neutral p t was = was
changed_after (Logical v) p t was = was
changed_after (StreamStart x first) p t was = not (first && eqb x t) && was
changed_after StreamStop p t was = was
changed_after (StreamCommit x) p t was = was
changed_after (StreamAbort x sub) p t was = was

abbrev pub is_changed : History → ℕ → Bool
is_changed [] t = false
is_changed (entry e g ∷ h) t = changed_after e (place h) t (is_changed h t)

-- ANNOUNCEMENTS: an announcement is an accepted R. What is seen of it: its tag, identity and column count; or there is none
pub data Announced : Type 0 where
  unannounced : Announced
  announced : (tag identity count : ℕ) → Announced

-- of an R as it was given, and its identity and column count
abbrev pub shown : Given → ℕ → ℕ → Announced
shown g i c = announced (tag_of g) i c

abbrev pub is_announced : Announced → Bool
is_announced unannounced = false
is_announced (announced g i c) = true

abbrev pub or_else : Announced → Announced → Announced
or_else unannounced b = b
or_else (announced g i c) b = announced g i c

-- t's own latest of an OID: one made in a block of t is t's own; t's c makes it common, and an A that ends t drops it
abbrev pub own_after : Event → Given → Place → ℕ → ℕ → Announced → Announced
own_after (Begin lsn x) g p t oid was = was
own_after (Commit lsn) g p t oid was = was
own_after Origin g p t oid was = was
own_after (Relation o i c) g p t oid was = cond (in_block p && eqb (holder_at p) t && eqb o oid) (shown g i c) was
own_after (Change x o ts) g p t oid was = was
own_after (Truncate x os) g p t oid was = was
own_after Neutral g p t oid was = was
own_after (Logical v) g p t oid was = was
own_after (StreamStart x first) g p t oid was = was
own_after StreamStop g p t oid was = was
own_after (StreamCommit x) g p t oid was = cond (eqb x t) unannounced was
own_after (StreamAbort x sub) g p t oid was = cond (eqb x sub && eqb x t) unannounced was

abbrev pub own : History → ℕ → ℕ → Announced
own [] t oid = unannounced
own (entry e g ∷ h) t oid = own_after e g (place h) t oid (own h t oid)

-- the common one of an OID: one made between B and C is common at once; at t's c, t's own latest (`mine t`) becomes common;
-- each replaces the common one of that OID, even a younger one
abbrev pub common_after : Event → Given → Place → (ℕ → Announced) → ℕ → Announced → Announced
common_after (Begin lsn x) g p mine oid was = was
common_after (Commit lsn) g p mine oid was = was
common_after Origin g p mine oid was = was
common_after (Relation o i c) g p mine oid was = cond (in_transaction p && eqb o oid) (shown g i c) was
common_after (Change x o ts) g p mine oid was = was
common_after (Truncate x os) g p mine oid was = was
common_after Neutral g p mine oid was = was
common_after (Logical v) g p mine oid was = was
common_after (StreamStart x first) g p mine oid was = was
common_after StreamStop g p mine oid was = was
common_after (StreamCommit x) g p mine oid was = or_else (mine x) was
common_after (StreamAbort x sub) g p mine oid was = was

abbrev pub common : History → ℕ → Announced
common [] oid = unannounced
common (entry e g ∷ h) oid = common_after e g (place h) (λ t. own h t oid) oid (common h oid)

-- a holder's announcement of an OID
abbrev pub latest : History → ℕ → ℕ → Announced
latest h t oid = cond (eqb t 0) (common h oid) (own h t oid)

-- ROOM

-- every pair of a holder and an OID that an R can have made: its holder's, and the common one that its holder's c makes of it
abbrev pub pairs_after : Event → Place → List Pair → List Pair
pairs_after (Begin lsn x) p ps = ps
pairs_after (Commit lsn) p ps = ps
pairs_after Origin p ps = ps
pairs_after (Relation o i c) p ps = pair (holder_at p) o ∷ pair 0 o ∷ ps
pairs_after (Change x o ts) p ps = ps
pairs_after (Truncate x os) p ps = ps
pairs_after Neutral p ps = ps
pairs_after (Logical v) p ps = ps
pairs_after (StreamStart x first) p ps = ps
pairs_after StreamStop p ps = ps
pairs_after (StreamCommit x) p ps = ps
pairs_after (StreamAbort x sub) p ps = ps

abbrev pub pairs : History → List Pair
pairs [] = []
pairs (entry e g ∷ h) = pairs_after e (place h) (pairs h)

-- LIVE: the holder has an announcement of the OID
abbrev pub is_live : History → Pair → Bool
is_live h (pair t o) = is_announced (latest h t o)

-- how many announcements are live: the distinct pairs
abbrev pub live_count : History → ℕ
live_count h = length (keep (is_live h) (distinct same_pair (pairs h)))
