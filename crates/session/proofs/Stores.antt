-- What a step's parts did, put together: the record that a step leaves and the answer that it gives. Assumes nothing.
use Prim.Native.Nat.{ℕ}
use mathlib.Core.List.{List}
use mathlib.Core.Bool.{Bool, cond}
use mathlib.Core.Path.{◌≡◌, sym, ◌∙◌, ap}
use lib.ListN.{get_or}
use Rattle.std.specs.Prelude.{Option, Result, Ok, Err, IsErrAnd}
use Rattle.std.proofs.lemmas.Result.{err_from_is_err_and}
use Rattle.wire.specs.declared.Refusal.{Refusal}
use Rattle.catalog.specs.declared.announcements.Announcement.{Announcement}
use Rattle.message.specs.Messages.{Read}
use Rattle.message.specs.Messages.{read_message}
use Rattle.catalog.specs.declared.announcements.Announcements.{Announcements}
use Rattle.catalog.specs.declared.streams.Streams.{Streams}
use Rattle.catalog.specs.Tables.{Table, table}
use Rattle.session.specs.declared.Place.{Place}
use Rattle.session.specs.Answers.{Answer}
use Rattle.session.specs.declared.Head.{Head}
use Rattle.session.specs.declared.Looked.{Looked}
use Rattle.session.specs.declared.Looked.TheVariants as looked
use Rattle.session.specs.declared.Act.{Act}
use Rattle.session.specs.declared.Tuples.{Tuples}
use Rattle.session.specs.declared.Session.{Session}
use Rattle.session.specs.declared.Stepped.{Stepped}
use Rattle.session.specs.Events.{Event, Change, Tuple}
use Rattle.session.specs.History.{in_block, place_after}
use Rattle.session.specs.Rules.{rule_change, accepts, Heard, heard_of, hears}
use Rattle.session.specs.State.{State, state, visible_in, answer_in, flagged_at, flag_after, marked_at, streams_after, table_after, state_after}
use Rattle.session.specs.Machine.{place_in, flag_in, version_in, head_at, Parts, parts, table_of, view, written, session_of, head_in, words_of, made, stepped, answer_of, stored_of, event_step, heard_step, step_of}
use Rattle.session.specs.Acts.{tuples_of, event_in, heard_in}

-- LOOK
pub looked-is : (w xs : List ℕ) (h : Head) (place : Place) (b : Bool) (r : Read) → h ≡ head_in w → place ≡ place_in h → b ≡ in_block place → r ≡ read_message (version_in h) b xs
    → (n : Heard) → n ≡ heard_of r xs → n ≡ hears (version_in (head_in w)) (place_in (head_in w)) xs
looked-is w xs h place b r eh ep eb er n e =
    e ∙ ap (λ (x : Read). heard_of x xs) (er ∙ ap (λ (v : Bool). read_message (version_in h) v xs) (eb ∙ ap in_block ep))
    ∙ ap (λ (x : Head). hears (version_in x) (place_in x) xs) eh

-- JUDGE: a change, by where the head stands
pub change-judged : (h : Head) (t : Table) (o : ℕ) (ts : List Tuple) (p q : Place) → p ≡ place_in h → p ≡ q
    → (r : Answer) → r ≡ rule_change q (visible_in q t o) ts → r ≡ rule_change (place_in h) (visible_in (place_in h) t o) ts
change-judged h t o ts p q ep e r k = k ∙ ap (λ (x : Place). rule_change x (visible_in x t o) ts) (sym e ∙ ep)

-- APPLY

-- a head that stands where it stood, and the table of as many rows as it says
module _ (h r : Head) (p : Place) (b : Bool) (n : ℕ) (e : r ≡ head_at h p b n) where
  rows_are : r.rows ≡ n
  rows_are = ap (λ (x : Head). x.rows) e

  pub headed : p ≡ place_in h → b ≡ flag_in h → r ≡ head_at h (place_in h) (flag_in h) r.rows
  headed ep eb = let er : n ≡ r.rows = sym rows_are in e ∙ rw (ep, eb, er)

  pub tabled : (a : Announcements) (t : Table) → table n a ≡ t → table r.rows a ≡ t
  tabled a t k = ap (λ (x : ℕ). table x a) rows_are ∙ k

-- a change, by where the head stands
pub change_applied : (h : Head) (s : Streams) (p q : Place) (f : Bool) → p ≡ place_in h → f ≡ flag_in h → p ≡ q
    → (r : Head) (n : Streams) → r ≡ head_at h p (flagged_at q f) h.rows → n ≡ marked_at q s
    → (r ≡ head_at h (place_in h) (flagged_at (place_in h) (flag_in h)) h.rows) × (n ≡ marked_at (place_in h) s)
change_applied h s p q f ep ef e r n k l = let eq : q ≡ place_in h = sym e ∙ ep in (k ∙ rw (ep, ef, eq), l ∙ rw eq)

-- a head, streams and a table make the record that says them
pub stored : (s : Parts) (n : State) (r : Head) (m : ℕ) (streams : Streams) (a : Announcements) → r ≡ head_at s.head n.place n.changed m
    → streams ≡ n.streams → table m a ≡ n.table → parts r streams a ≡ written s n
stored s n r m streams a eh es et = rw (← es, ← et) (ap (λ (h : Head). parts h streams a) eh)

-- A MESSAGE OF ANOTHER KIND, by where the head stands and whether it has a change
module _ (s : Parts) (xs : List ℕ) (a b : Act) (e : a ≡ b) (p : Place) (f : Bool) (ep : p ≡ place_in s.head) (ef : f ≡ flag_in s.head) where
  abbrev here : State
  here = state p f s.streams (table_of s)

  pub judged : (r : Answer) → r ≡ answer_in here (event_in b xs) → r ≡ answer_in (view s) (event_in a xs)
  judged r k = k ∙ rw (ep, ef, e)

  pub applied : (g : ℕ) (r : Head) (m : ℕ) (streams : Streams) (t : Announcements)
      → r ≡ head_at s.head (place_after (event_in b xs) p) (flag_after (event_in b xs) p f) m → streams ≡ streams_after (event_in b xs) p s.streams
      → table m t ≡ table_after (event_in b xs) g p (table_of s)
      → parts r streams t ≡ written s (state_after (view s) (event_in a xs) g)
  applied g r m streams t eh es et =
      stored s (state_after here (event_in b xs) g) r m streams t eh es et ∙ rw (ep, ef, e)

-- AN EVENT, by the head that the words give
abbrev under : Head → Session → Parts
under h s = parts h s.streams s.announcements

module _ (s : Session) (h : Head) (eh : h ≡ head_in s.head) (e : Event) where
  pub answer-is : (a : Answer) → a ≡ answer_in (view (under h s)) e → a ≡ answer_of s e
  answer-is a ea = ea ∙ ap (λ (x : Head). answer_in (view (under x s)) e) eh

  -- the words of the new head, and the new arrays
  pub stored_is : (g : ℕ) (n : Head) (ws : List ℕ) (streams : Streams) (a : Announcements) → ws ≡ words_of (get_or s.head 1 0) n
      → parts n streams a ≡ written (under h s) (state_after (view (under h s)) e g) → session_of ws streams a ≡ stored_of s e g
  stored_is g n ws streams a ew q =
      ap (λ (x : List ℕ). session_of x streams a) ew
      ∙ ap (made (get_or s.head 1 0)) (q ∙ ap (λ (x : Head). written (under x s) (state_after (view (under x s)) e g)) eh)

-- A STEP

-- the exit of a `?` hands a refusal on as it is
handed-on : (r : Refusal) (y : Answer) → IsErrAnd y (λ k. k ≡ r) → y ≡ Err r
handed-on r y h = let k = err_from_is_err_and y h in k.1 ∙ ap Err k.2

-- an event that is judged: the record that keeps it, or the record as it was
module _ (s : Session) (e : Event) (g : ℕ) (a : Answer) (ea : a ≡ answer_of s e) where
  pub refused_event : (r : Refusal) → a ≡ Err r → (y : Answer) → IsErrAnd y (λ k. k ≡ r) → stepped s y ≡ event_step s e g
  refused_event r w y h = ap (stepped s) (handed-on r y h) ∙ ap (λ (x : Answer). stepped (cond (accepts x) (stored_of s e g) s) x) (sym w ∙ ea)

  pub accepted_event : (seen : Option Announcement) → a ≡ Ok seen → (n : Session) → n ≡ stored_of s e g → stepped n (Ok seen) ≡ event_step s e g
  accepted_event seen w n q =
      ap (λ (x : Session). stepped x (Ok seen)) q ∙ ap (λ (x : Answer). stepped (cond (accepts x) (stored_of s e g) s) x) (sym w ∙ ea)

-- what is heard of the bytes
module _ (s : Session) (xs : List ℕ) (g : ℕ) (l : Result Looked Refusal) (el : heard_in l xs ≡ hears (version_in (head_in s.head)) (place_in (head_in s.head)) xs) where
  step_is : heard_step s (heard_in l xs) g ≡ step_of s xs g
  unfolding step_of
  step_is = ap (λ (x : Heard). heard_step s x g) el

  heard-is : (m : Result Looked Refusal) → l ≡ m → heard_step s (heard_in m xs) g ≡ step_of s xs g
  heard-is m e = ap (λ (x : Result Looked Refusal). heard_step s (heard_in x xs) g) (sym e) ∙ step_is

  pub unread-step : (r : Refusal) → l ≡ Err r → (y : Answer) → IsErrAnd y (λ k. k ≡ r) → stepped s y ≡ step_of s xs g
  unread-step r e y h = ap (stepped s) (handed-on r y h) ∙ heard-is (Err r) e

  pub change-step : (o x : ℕ) (ts : Tuples) → l ≡ Ok (looked.Change o x ts) → (m : Stepped) → ((y : ℕ) → m ≡ event_step s (Change y o (tuples_of ts)) g) → m ≡ step_of s xs g
  change-step o x ts e m q = q x ∙ heard-is (Ok (looked.Change o x ts)) e

  pub other_step : (c : Act) → l ≡ Ok (looked.Other c) → (m : Stepped) → m ≡ event_step s (event_in c xs) g → m ≡ step_of s xs g
  other_step c e m q = q ∙ heard-is (Ok (looked.Other c)) e
