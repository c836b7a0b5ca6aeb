-- A session whose record agrees with history answers every list of messages as the rules say. Assumes nothing.
use mathlib.Core.Path.{◌≡◌, refl, ◌∙◌, ap, ap₂}
use mathlib.Core.List.{List, [], ◌∷◌}
use mathlib.Core.Bool.{Bool, true, false, cond, not}
use Prim.Native.Nat.{ℕ, ◌%◌, ◌≤◌}
use native.Mathlib.Omega.{arith}
use lib.Dec.{eqb}
use lib.ListN.{length, get_or}
use Rattle.catalog.specs.Table.{Small}
use Rattle.message.specs.declared.Version.{Version}
use Rattle.message.specs.declared.Message.{Message}
use Rattle.message.specs.Messages.{Read}
use Rattle.std.specs.Prelude.{Ok, Err}
use Rattle.message.specs.Messages.{read_message}
use Rattle.session.specs.declared.Place.{Place}
use Rattle.session.specs.declared.Place.TheVariants.{Idle, Transaction, Block}
use Rattle.session.specs.Answers.{Answer}
use Rattle.session.specs.declared.Session.{Session}
use Rattle.session.specs.declared.Stepped.{Stepped}
use Rattle.session.specs.Events.{Event, Begin, Commit, Origin, Relation, Change, Truncate, Neutral, Logical, StreamStart, StreamStop, StreamCommit, StreamAbort, event_of}
use Rattle.session.specs.History.{History, entry, place, place_after, in_block, Given, given}
use Rattle.session.specs.Rules.{rooms, judge, accepts, Heard, unread, heard, heard_of, hears, answer_to, history_after, answers_by, history_by, answers, past}
use Rattle.session.specs.State.{Layout, StateOf, State, sorted, answer_in, state_after, state_by}
use Rattle.session.specs.Machine.{version_in, place_of, phase_of, current_of, lsn_of, Parts, view, written, parts_of, made, heard_step, step_of}
use Rattle.session.specs.Runs.{run, after}
use Rattle.session.specs.Layouts.{answer_heard, state_heard, run_by}
use Rattle.session.proofs.Formed.{Formed, read_formed, read_short}
use Rattle.session.proofs.Lawful.{Lawful, sorted_lawful, sorted_sound}
use Rattle.session.proofs.Agreement as agreement
use Rattle.session.proofs.Agreement.{same_answer, kept}

-- WHAT IS HEARD is well formed, and of bytes of a length that fits 32 bits
abbrev pub Well : List ℕ → Heard → Type 0
Well xs (unread n o) = Unit {0}
Well xs (heard e) = Formed e × Small (length xs)

pub hears_well : (v : Version) (p : Place) (xs : List ℕ) → Well xs (hears v p xs)
hears_well v p xs = go (read_message v (in_block p) xs) (λ m q. (read_formed (in_block p) xs v m q, read_short (in_block p) xs v m q))
  where
    go : (r : Read) → ((m : Message) → r ≡ Ok m → Formed (event_of m xs) × Small (length xs)) → Well xs (heard_of r xs)
    go (Err k) f = tt
    go (Ok m) f = f m refl

-- WHATEVER THE LAYOUT, as long as it has the laws: the answer is the rules', and the next state agrees with the history after it
module _ (L : Layout) (laws : Lawful L) where
  module _ (s : StateOf L.Rows) (h : History) (a : agreement.Agrees L laws s h) (xs : List ℕ) (g : ℕ) where
    judged : (e : Event) → Formed e → (v : Bool) → accepts (judge rooms h e) ≡ v → agreement.Agrees L laws (cond v (state_by L s e g) s) (cond v (entry e (given xs g) ∷ h) h)
    judged e f true ok = kept L laws s h a e (given xs g) f ok
    judged e f false ok = a

    follows : (r : Heard) → Well xs r → (answer_heard L s r ≡ answer_to rooms h r) × agreement.Agrees L laws (state_heard L s r g) (history_after rooms h r (given xs g))
    follows (unread n o) f = (refl, a)
    follows (heard e) f = rw (same_answer L laws s h a e) (refl, judged e f.0 (accepts (judge rooms h e)) refl)

  pub layout-run : (v : Version) (l : List Given) (s : StateOf L.Rows) (h : History) → agreement.Agrees L laws s h → run_by L v s l ≡ answers v h l
  unfolding run_by answers_by
  layout-run v [] s h a = refl
  layout-run v (given xs g ∷ l) s h a =
      let k = follows s h a xs g (hears v (place h) xs) (hears_well v (place h) xs) in
      ap (λ (p : Place). answer_heard L s (hears v p xs) ∷ run_by L v (state_heard L s (hears v p xs) g) l) a.at
      ∙ ap₂ (λ (x : Answer) (t : List Answer). x ∷ t) k.0
      (layout-run v l (state_heard L s (hears v (place h) xs) g) (history_after rooms h (hears v (place h) xs) (given xs g)) k.1)

-- THE SESSION'S RECORD
abbrev pub Agrees : State → History → Type 0
Agrees s h = agreement.Agrees sorted sorted_lawful s h

abbrev pub says : Session → State
says s = view (parts_of s)

abbrev pub version_for : Session → Version
version_for s = version_in (parts_of s).head

-- THE WORDS of a head give back what they were made of

-- an xid that has its place in a word
abbrev pub Fits : Place → Type 0
Fits Idle = Unit {0}
Fits (Transaction l) = Unit {0}
Fits (Block x) = Small x

place_again : (p : Place) (current lsn : ℕ) → Fits p → place_of (phase_of p % 4294967296) (current_of p current % 4294967296) (lsn_of p lsn) ≡ p
place_again Idle current lsn f = refl
place_again (Transaction l) current lsn f = refl
place_again (Block x) current lsn f = ap Block (omega arith)

bit_again : (b : Bool) → not (eqb (cond b 1 0 % 65536) 0) ≡ b
bit_again true = refl
bit_again false = refl

-- what is written is what the record then says
view-written : (v : ℕ) (p : Parts) (n : State) → Fits n.place → n.table.count ≤ 256 → view (parts_of (made v (written p n))) ≡ n
view-written v p n f few =
    let e : n.table.count % 65536 ≡ n.table.count = omega arith in
    rw (place_again n.place p.head.current_xid p.head.final_lsn f, bit_again n.changed, e)

-- every record stands where its words can say it, and so does the next
pub place-fits : (phase current lsn : ℕ) → Fits (place_of phase (current % 4294967296) lsn)
place-fits phase current lsn = go (eqb phase 1) (eqb phase 2)
  where
    go : (u v : Bool) → Fits (cond u (Transaction lsn) (cond v (Block (current % 4294967296)) Idle))
    go true v = tt
    go false true = omega arith
    go false false = tt

fits_after : (e : Event) (p : Place) → Formed e → Fits p → Fits (place_after e p)
fits_after (Begin l x) p f w = tt
fits_after (Commit l) p f w = tt
fits_after Origin p f w = w
fits_after (Relation o i c) p f w = w
fits_after (Change x o ts) p f w = w
fits_after (Truncate x os) p f w = w
fits_after Neutral p f w = w
fits_after (Logical v) p f w = w
fits_after (StreamStart x first) p f w = f.1
fits_after StreamStop p f w = tt
fits_after (StreamCommit x) p f w = w
fits_after (StreamAbort x sub) p f w = w

-- what a step leaves in the record is the next state, and its answer that state's
module _ (s : Session) (g : ℕ) where
  abbrev after_event : Event → Session
  after_event e = made (get_or s.head 1 0) (written (parts_of s) (state_after (says s) e g))

  event_says : (e : Event) → Formed e → (v : Bool) (h : History) → Agrees (cond v (state_after (says s) e g) (says s)) h
      → says (cond v (after_event e) s) ≡ cond v (state_after (says s) e g) (says s)
  event_says e f true h k =
      view-written (get_or s.head 1 0) (parts_of s) (state_after (says s) e g)
      (fits_after e (says s).place f (place-fits (parts_of s).head.phase (get_or s.head 2 0) (get_or s.head 0 0)))
      (sorted_sound (state_after (says s) e g).table k.table.sound).few
  event_says e f false h k = refl

  heard-says : (xs : List ℕ) (r : Heard) → Well xs r → (h : History) → Agrees (state_heard sorted (says s) r g) h → says (heard_step s r g).session ≡ state_heard sorted (says s) r g
  heard-says xs (unread n o) f h k = refl
  heard-says xs (heard e) f h k = event_says e f.0 (accepts (answer_in (says s) e)) h k

  heard-answers : (r : Heard) → (heard_step s r g).answer ≡ answer_heard sorted (says s) r
  heard-answers (unread n o) = refl
  heard-answers (heard e) = refl

  version_stays : (r : Heard) → version_for (heard_step s r g).session ≡ version_for s
  version_stays (unread n o) = refl
  version_stays (heard e) = go (accepts (answer_in (says s) e))
    where
      go : (v : Bool) → version_for (cond v (after_event e) s) ≡ version_for s
      go true = refl
      go false = refl

-- ONE STEP: its answer is the rules', and the record then agrees with the history after it
module _ (s : Session) (h : History) (a : Agrees (says s) h) (xs : List ℕ) (g : ℕ) where
  abbrev Follows : Stepped → Heard → Type 0
  Follows n r = (n.answer ≡ answer_to rooms h r) × Agrees (says n.session) (history_after rooms h r (given xs g)) × (version_for n.session ≡ version_for s)

  pub heard_follows : (r : Heard) → Well xs r → Follows (heard_step s r g) r
  heard_follows r f =
      let k = follows sorted sorted_lawful (says s) h a xs g r f in
      (heard-answers s g r ∙ k.0, rw (heard-says s g xs r f (history_after rooms h r (given xs g)) k.1) k.1, version_stays s g r)

  pub step_follows : Follows (step_of s xs g) (hears (version_for s) (place h) xs)
  unfolding step_of
  step_follows = go (says s).place a.at
    where
      go : (p : Place) → p ≡ place h → Follows (heard_step s (hears (version_for s) p xs) g) (hears (version_for s) (place h) xs)
      go p e = rw e (heard_follows (hears (version_for s) (place h) xs) (hears_well (version_for s) (place h) xs))

-- A LIST
pub version_after : (l : List Given) (s : Session) → version_for (after s l) ≡ version_for s
unfolding after step_of
version_after [] s = refl
version_after (given xs g ∷ l) s = version_after l (step_of s xs g).session ∙ version_stays s g (hears (version_for s) (says s).place xs)

pub agree_run : (l : List Given) (s : Session) (h : History) → Agrees (says s) h → run s l ≡ answers (version_for s) h l
unfolding run answers_by
agree_run [] s h a = refl
agree_run (given xs g ∷ l) s h a =
    let k = step_follows s h a xs g in
    let n = history_after rooms h (hears (version_for s) (place h) xs) (given xs g) in
    ap₂ (λ (x : Answer) (t : List Answer). x ∷ t) k.0 (agree_run l (step_of s xs g).session n k.1 ∙ ap (λ (v : Version). answers v n l) k.2)

moved : (s : Session) (h : History) (l : List Given) (v w : Version) → v ≡ w → Agrees (says s) (past v h l) → Agrees (says s) (past w h l)
moved s h l v w e k = rw (← e) k

pub agree_after : (l : List Given) (s : Session) (h : History) → Agrees (says s) h → Agrees (says (after s l)) (past (version_for s) h l)
unfolding after history_by
agree_after [] s h a = a
agree_after (given xs g ∷ l) s h a =
    let k = step_follows s h a xs g in
    let n = history_after rooms h (hears (version_for s) (place h) xs) (given xs g) in
    moved (after (step_of s xs g).session l) n l (version_for (step_of s xs g).session) (version_for s) k.2 (agree_after l (step_of s xs g).session n k.1)
