-- A session's record and a keeper's buffer agree with history: the buffer begins with the records that history keeps. Assumes nothing.
use Prim.Native.Nat.{ℕ, ◌+◌, ◌≤◌}
use mathlib.Core.List.{List, [], ◌∷◌, ◌++◌, append_assoc, append-nil}
use mathlib.Core.Bool.{Bool, true, false, cond, not, ◌&&◌, false≢true}
use mathlib.Core.Path.{◌≡◌, refl, sym, ◌∙◌, ap, ap₂, subst}
use native.Mathlib.Omega.{arith}
use borrow.Author.Tests.{leb-true}
use lib.Dec.{eqb, leb}
use lib.ListN.{length, take, drop, get_or, length-append}
use lib.Seq.{sets, sets-eq, take-append_seam, drop-append_seam}
use Rattle.std.specs.Prelude.{Some, None, Ok, Err}
use Rattle.wire.specs.Lists.{keep}
use Rattle.catalog.specs.Table.{Small}
use Rattle.session.specs.declared.Place.{Place}
use Rattle.session.specs.declared.Place.TheVariants.{Idle, Transaction, Block}
use Rattle.session.specs.Answers.{Answer}
use Rattle.session.specs.declared.Session.{Session}
use Rattle.session.specs.Events.{Event, Begin, Commit, Origin, Relation, Change, Truncate, Neutral, Logical, StreamStart, StreamStop, StreamCommit, StreamAbort}
use Rattle.session.specs.History.{given, entry, History, place}
use Rattle.session.specs.Rules.{rooms, test, judge, accepts, heard}
use Rattle.session.specs.Machine.{head_in, answer_of, stored_of}
use Rattle.session.proofs.Formed.{Formed}
use Rattle.session.proofs.Runs as session
use Rattle.session.proofs.Runs.{says, version_for, Well, Fits, place-fits, heard_follows}
use Rattle.keeper.specs.declared.Header.{Header}
use Rattle.keeper.specs.Rules.{Kept, kept, is_of, is_under, Doing, nothing, keeps, frees, drops, doing, joined, is_dropped, kept_after, kept_in, released_by, record_of, records_of, laid, Space, rule_room, rule_keeper, ruled, space_of, judge_kept}
use Rattle.keeper.specs.Records.{header, xids_of, is_named, pieces_in, chosen, Hold, hold}
use Rattle.keeper.specs.Machine.{appended, hold_after, released_from, space_in}
use Rattle.keeper.proofs.Pieces.{AllSound, sound_keep, sound_join, length_record, length_records, pieces_of}

pub record Agrees (s : Session) (b : Hold) (h : History) : Type 0 where
  pub told : session.Agrees (says s) h
  pub sound : AllSound (kept_in h)
  pub held : b.held ≡ length (records_of (kept_in h))
  pub lies : laid (records_of (kept_in h)) b.buffer ≡ b.buffer

-- WHAT IS KEPT FITS ITS FIELDS

abbrev OwnFits : Doing → Type 0
OwnFits nothing = Unit {0}
OwnFits (keeps own) = Small own
OwnFits (frees x) = Unit {0}
OwnFits (drops x sub) = Unit {0}

own-fits : (e : Event) → Formed e → OwnFits (doing e)
own-fits (Begin l x) f = tt
own-fits (Commit l) f = tt
own-fits Origin f = tt
own-fits (Relation o i c) f = tt
own-fits (Change x o ts) f = f
own-fits (Truncate x os) f = f
own-fits Neutral f = tt
own-fits (Logical v) f = tt
own-fits (StreamStart x first) f = tt
own-fits StreamStop f = tt
own-fits (StreamCommit x) f = tt
own-fits (StreamAbort x sub) f = tt

module _ (xs : List ℕ) (short : Small (length xs)) (ks : List Kept) (a : AllSound ks) where
  sound_joined : (p : Place) (own : ℕ) → Fits p → Small own → AllSound (joined p own xs ks)
  sound_joined Idle own w n = a
  sound_joined (Transaction l) own w n = a
  sound_joined (Block x) own w n = sound_join ks (kept x own xs) a (record { top_fits = w; own-fits = n; length-fits = short })

  sound_after : (d : Doing) (p : Place) → Fits p → OwnFits d → AllSound (kept_after d p xs ks)
  sound_after nothing p w n = a
  sound_after (keeps own) p w n = sound_joined p own w n
  sound_after (frees x) p w n = sound_keep (λ k. not (is_of x k)) ks a
  sound_after (drops x sub) p w n = sound_keep (λ k. not (is_dropped x sub k)) ks a

-- THE BUFFER AFTER A MESSAGE

laid_again : (rs buffer : List ℕ) → laid rs (laid rs buffer) ≡ laid rs buffer
laid_again rs buffer = ap (λ (t : List ℕ). rs ++ t) (drop-append_seam rs (drop (length rs) buffer))

records_join : (ks : List Kept) (k : Kept) → records_of (ks ++ (k ∷ [])) ≡ records_of ks ++ record_of k
records_join [] k = append-nil (record_of k)
records_join (j ∷ ks) k = ap (λ (t : List ℕ). record_of j ++ t) (records_join ks k) ∙ sym (append_assoc (record_of j) (records_of ks) (record_of k))

-- a message that both accept
pub both_accept : (a k : Answer) → accepts (cond (accepts a) k a) ≡ true → (accepts a ≡ true) × (accepts k ≡ true)
both_accept (Ok seen) k ok = (refl, ok)
both_accept (Err r) k ok = absurd (false≢true ok)

module _ (s : Session) (b : Hold) (h : History) (a : Agrees s b h) where
  abbrev holding : List Kept → Hold
  holding ks = hold (laid (records_of ks) b.buffer) (length (records_of ks))

  held-part : take b.held b.buffer ≡ records_of (kept_in h)
  held-part =
      ap₂ (λ (n : ℕ) (t : List ℕ). take n t) a.held (sym a.lies) ∙ take-append_seam (records_of (kept_in h)) (drop (length (records_of (kept_in h))) b.buffer)

  as_it_was : b ≡ holding (kept_in h)
  as_it_was = ap₂ hold (sym a.lies) a.held

  module _ (q : Header → Bool) (p : Kept → Bool) (same : (top own : ℕ) (xs : List ℕ) → q (header (14 + length xs) (xids_of top own)) ≡ p (kept top own xs)) where
    pieces_there : pieces_in q (take b.held b.buffer) ≡ records_of (keep p (kept_in h))
    pieces_there = ap (pieces_in q) held-part ∙ pieces_of q p same (kept_in h) a.sound

    packing : (let rs = pieces_in q (take b.held b.buffer) in hold (laid rs b.buffer) (length rs)) ≡ holding (keep p (kept_in h))
    packing = ap (λ (rs : List ℕ). hold (laid rs b.buffer) (length rs)) pieces_there

  joining : (x own : ℕ) (xs : List ℕ) → b.held + (14 + length xs) ≤ length b.buffer → appended (Block x) own xs b ≡ holding (joined (Block x) own xs (kept_in h))
  joining x own xs l =
      let rs = records_of (kept_in h) in
      let r = record_of (kept x own xs) in
      let n : length r ≡ 14 + length xs = length_record x own xs in
      let m : b.held ≡ length rs = a.held in
      let size : b.held + (14 + length xs) ≡ length (rs ++ r) = omega (arith, length-append rs r) in
      let end : b.held + length r ≡ length (rs ++ r) = omega (arith, length-append rs r) in
      let stored : sets b.buffer b.held r ≡ laid (rs ++ r) b.buffer =
      sets-eq r b.buffer b.held (omega arith) ∙ ap₂ (λ (t : List ℕ) (i : ℕ). t ++ r ++ drop i b.buffer) held-part end in
      ap₂ hold stored size ∙ ap (λ (t : List ℕ). hold (laid t b.buffer) (length t)) (sym (records_join (kept_in h) (kept x own xs)))

  room_said : (n : ℕ) (p : Place) (own : ℕ) (xs : List ℕ) (y : Answer) → accepts (rule_room (space_in b n (keeps own)) p (length xs) y) ≡ true
      → appended p own xs b ≡ holding (joined p own xs (kept_in h))
  room_said n Idle own xs y ok = as_it_was
  room_said n (Transaction l) own xs y ok = as_it_was
  room_said n (Block x) own xs y ok = go (leb (b.held + (14 + length xs)) (length b.buffer)) refl ok
    where
      go : (v : Bool) → leb (b.held + (14 + length xs)) (length b.buffer) ≡ v → accepts (test v 14 y) ≡ true
          → appended (Block x) own xs b ≡ holding (joined (Block x) own xs (kept_in h))
      go true e ok = joining x own xs (leb-true (b.held + (14 + length xs)) (length b.buffer) e)
      go false e ok = absurd (false≢true ok)

  -- the buffer after a message that the keeper accepts
  hold-after : (n : ℕ) (d : Doing) (p : Place) (xs : List ℕ) (y : Answer) → accepts (rule_keeper (space_in b n d) d p (length xs) y) ≡ true
      → hold_after d p xs b ≡ holding (kept_after d p xs (kept_in h))
  hold-after n nothing p xs y ok = as_it_was
  hold-after n (keeps own) p xs y ok = room_said n p own xs y ok
  hold-after n (frees x) p xs y ok = packing (λ r. not (chosen x None r)) (λ k. not (is_of x k)) (λ top own ys. refl)
  hold-after n (drops x sub) p xs y ok =
      packing (λ r. not (chosen x (cond (eqb x sub) None (Some sub)) r)) (λ k. not (is_dropped x sub k)) (λ top own ys. ap not (go (eqb x sub) top own ys))
    where
      go : (v : Bool) (top own : ℕ) (ys : List ℕ) → is_named (cond v None (Some sub)) own && eqb top x ≡ cond v (is_of x (kept top own ys)) (is_under x sub (kept top own ys))
      go true top own ys = refl
      go false top own ys = refl

  pub same-released : (d : Doing) → released_from d b ≡ records_of (released_by d (kept_in h))
  same-released nothing = refl
  same-released (keeps own) = refl
  same-released (frees x) = pieces_there (chosen x None) (is_of x) (λ top own ys. refl)
  same-released (drops x sub) = refl

  same_space : (n : ℕ) (d : Doing) → space_in b n d ≡ space_of (length b.buffer) n d (kept_in h)
  same_space n d =
      ap₂ (λ (k m : ℕ). let t : Space = record { room = length b.buffer; held = k; output = n; released = m } in t) (a.held ∙ length_records (kept_in h))
      (ap length (same-released d) ∙ length_records (released_by d (kept_in h)))

  block-fits : Fits (place h)
  block-fits = subst Fits a.told.at (place-fits (head_in s.head).phase (get_or s.head 2 0) (get_or s.head 0 0))

  -- A MESSAGE, with an output of n bytes
  module _ (e : Event) (xs : List ℕ) (g : ℕ) (f : Well xs (heard e)) (n : ℕ) where
    abbrev judged_by : Space → Answer
    judged_by t = rule_keeper t (doing e) (place h) (length xs) (judge rooms h e)

    same-told : answer_of s e ≡ judge rooms h e
    same-told = (heard_follows s h a.told xs g (heard e) f).0

    -- has the same answer,
    pub same_answer : ruled (space_in b n (doing e)) (doing e) (says s).place (length xs) (answer_of s e) ≡ judge_kept (length b.buffer) n h e xs
    same_answer =
        ap₂ (λ (p : Place) (y : Answer). ruled (space_in b n (doing e)) (doing e) p (length xs) y) a.told.at same-told
        ∙ ap (λ (t : Space). cond (accepts (judge rooms h e)) (judged_by t) (judge rooms h e)) (same_space n (doing e))

    -- and leaves both in agreement where it is accepted
    module _ (ok : accepts (judge_kept (length b.buffer) n h e xs) ≡ true) where
      both : (accepts (judge rooms h e) ≡ true) × (accepts (judged_by (space_of (length b.buffer) n (doing e) (kept_in h))) ≡ true)
      both = both_accept (judge rooms h e) (judged_by (space_of (length b.buffer) n (doing e) (kept_in h))) ok

      pub hold-is : hold_after (doing e) (place h) xs b ≡ holding (kept_in (entry e (given xs g) ∷ h))
      hold-is = hold-after n (doing e) (place h) xs (judge rooms h e) (ap (λ (t : Space). accepts (judged_by t)) (same_space n (doing e)) ∙ both.1)

      pub version_after : version_for (stored_of s e g) ≡ version_for s
      version_after = rw (same-told, both.0) at (heard_follows s h a.told xs g (heard e) f).2

      pub kept-after : Agrees (stored_of s e g) (hold_after (doing e) (place h) xs b) (entry e (given xs g) ∷ h)
      kept-after = record {
        told = rw (same-told, both.0) at (heard_follows s h a.told xs g (heard e) f).1;
        sound = sound_after xs f.1 (kept_in h) a.sound (doing e) (place h) block-fits (own-fits e f.0);
        held = ap (λ (c : Hold). c.held) hold-is;
        lies = rw hold-is (laid_again (records_of (kept_in (entry e (given xs g) ∷ h))) b.buffer);
      }
