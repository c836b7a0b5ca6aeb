-- Two neighbouring blocks of different streamed transactions change places, whatever is given and got with each message. Assumes nothing.
use mathlib.Core.Path.{◌≡◌, refl, sym, ◌∙◌, ap, ap₂, subst}
use mathlib.Core.List.{List, [], ◌∷◌, ◌++◌, map}
use mathlib.Core.Bool.{Bool, true, false, cond, ◌&&◌, false≢true}
use Prim.Native.Nat.{ℕ, suc}
use borrow.Author.Tests.{ne_eqb}
use lib.Dec.{eqb}
use lib.ListN.{length, drop}
use lib.Seq.{drop_at}
use Rattle.std.specs.Prelude.{Ok, Err}
use Rattle.message.specs.declared.Version.{Version}
use Rattle.message.specs.declared.Message.{Message}
use Rattle.message.specs.declared.Message.TheVariants as m
use Rattle.message.specs.Messages.{Read, read_message}
use Rattle.message.specs.Layout.{read_fields}
use Rattle.message.specs.Kinds.{stream_start, layout}
use Rattle.message.specs.Encode.{kind_of_message}
use Rattle.message.proofs.Parts.{kind_back}
use Rattle.message.proofs.Accepted.{accepted}
use Rattle.session.specs.declared.Place.{Place}
use Rattle.session.specs.declared.Place.TheVariants.{Idle, Transaction, Block}
use Rattle.session.specs.Events.{Event, StreamStart, StreamStop, event_of}
use Rattle.session.specs.History.{Given, bytes_of, tag_of, Entry, entry, History, place_after, place, in_block, common}
use Rattle.session.specs.Rules.{rooms, judge, accepts, Heard, unread, heard, heard_of, hears}
use Rattle.session.specs.State.{State, sorted, fresh_by, state_by}
use Rattle.session.specs.Turns.{ToStop, stops, goes, BlockOf, starts, gets_after, EitherOrder}
use Rattle.wire.proofs.Tests.{and_parts}
use Rattle.session.proofs.Formed.{NonZero}
use Rattle.session.proofs.Lawful.{sorted_lawful}
use Rattle.session.proofs.Agreement.{fresh, kept}
use Rattle.session.proofs.Runs.{Well, hears_well, Agrees}
use Rattle.session.proofs.Alike.{AlikeAt, at_sym, at_after}
use Rattle.session.proofs.Stays as turn
use Rattle.session.proofs.Stays.{Turn, inner, turn_open, turn_stays, onto, Along, turn_other, along_other, Blocks, second_idle, first_behind, stays_first, stays_second, either_alike}
use Rattle.session.proofs.Filling.{Within, agreed_within, within_alike, along_fills, turn_same}

-- A WAY OF JUDGING: what is given with a message, and what the message gets; whether that is acceptance; which histories this way cannot tell apart;
-- and what it has room for
pub record Way : Type 1 where
  pub Item : Type 0
  pub Gets : Type 0
  pub given_of : Item → Given
  pub gets : History → Heard → Item → Gets
  pub taken : Gets → Bool
  pub Like : History → History → Type 0
  pub Fits : History → Type 0
  -- what is taken is a message that the rules accept
  pub unread_not : (h : History) (n o : ℕ) (i : Item) → taken (gets h (unread n o) i) ≡ false
  pub accepted : (h : History) (e : Event) (i : Item) → taken (gets h (heard e) i) ≡ true → accepts (judge rooms h e) ≡ true
  -- in a block, what the rules accept is taken where there is room behind it, and it gets what the rules answer
  pub takes : (x : ℕ) (h : History) (e : Event) (i : Item) → Turn x h e → accepts (judge rooms h e) ≡ true → Fits (entry e (given_of i) ∷ h) → taken (gets h (heard e) i) ≡ true
  pub same : (x : ℕ) (h k : History) (e : Event) (i : Item) → Turn x h e → Turn x k e → taken (gets h (heard e) i) ≡ true → taken (gets k (heard e) i) ≡ true
      → judge rooms h e ≡ judge rooms k e → gets h (heard e) i ≡ gets k (heard e) i
  -- what is alike gets the same, and stays alike; two blocks in either order leave what is alike
  pub like_place : (h k : History) → Like h k → place h ≡ place k
  pub like_gets : (h k : History) → Like h k → (m : Heard) (i : Item) → gets h m i ≡ gets k m i
  pub like_after : (h k : History) → Like h k → (e : Event) (i : Item) → Like (entry e (given_of i) ∷ h) (entry e (given_of i) ∷ k)
  pub like_blocks : (x y : ℕ) (h : History) (f s : List Entry) → Blocks x y h f s → Like (onto s (onto f h)) (onto f (onto s h))
  -- what is taken fits; in a block the room only fills; what is alike needs the same room
  pub fits-none : Fits []
  pub fits_after : (h : History) (e : Event) (i : Item) → taken (gets h (heard e) i) ≡ true → Fits h → Fits (entry e (given_of i) ∷ h)
  pub fits_before : (x : ℕ) (h : History) (e : Event) (g : Given) → Turn x h e → Fits (entry e g ∷ h) → Fits h
  pub fits_like : (h k : History) → Like h k → Fits h → Fits k

-- a Stream Start is read alike inside and outside of blocks
start_anywhere : (v : Version) (b : Bool) (xs : List ℕ) (x first : ℕ) (k : Message) → read_message v false xs ≡ Ok (m.StreamStart x first) → read_message v b xs ≡ Ok k
    → k ≡ m.StreamStart x first
start_anywhere v b xs x first k p q =
    let a = accepted v false xs (m.StreamStart x first) p in
    let c = accepted v b xs k q in
    let d : c.kind ≡ a.kind = cc (a.letter, c.letter) in
    let e : a.kind ≡ stream_start = sym (kind_back a.kind (read_fields false (layout a.kind) xs (Ok 1)).parts) ∙ sym (ap kind_of_message a.message) in
    (rw (d ∙ e) at c.message) ∙ sym (rw e at a.message)

module _ (W : Way) where
  abbrev pub all_taken : List W.Gets → Bool
  all_taken [] = true
  all_taken (g ∷ l) = W.taken g && all_taken l

  both_taken : (k l : List W.Gets) → all_taken (k ++ l) ≡ true → (all_taken k ≡ true) × (all_taken l ≡ true)
  both_taken [] l p = (refl, p)
  both_taken (g ∷ k) l p =
      let a = and_parts (W.taken g) (all_taken (k ++ l)) p in
      let b = both_taken k l a.1 in
      (rw (a.0, b.0), b.1)

  abbrev pub next : History → Heard → W.Item → History
  next h (unread n o) i = h
  next h (heard e) i = cond (W.taken (W.gets h (heard e) i)) (entry e (W.given_of i) ∷ h) h

  fits_along : (x : ℕ) (es : List Entry) (h : History) → Along x es h → W.Fits (onto es h) → W.Fits h
  fits_along x [] h a f = f
  fits_along x (entry e g ∷ es) h a f = W.fits_before x h e g a.0 (fits_along x es (entry e g ∷ h) a.1 f)

  -- some record agrees with it, and it fits
  abbrev Reached : History → Type 0
  Reached h = ((s : State) × Agrees s h) × W.Fits h

  reached_next : (h : History) (m : Heard) (i : W.Item) → Well (bytes_of (W.given_of i)) m → Reached h → Reached (next h m i)
  reached_next h (unread n o) i f a = a
  reached_next h (heard e) i f a = go (W.taken (W.gets h (heard e) i)) refl
    where
      g : Given
      g = W.given_of i

      go : (b : Bool) → W.taken (W.gets h (heard e) i) ≡ b → Reached (cond b (entry e (W.given_of i) ∷ h) h)
      go true ok = ((state_by sorted a.0.0 e (tag_of g), kept sorted sorted_lawful a.0.0 h a.0.1 e g f.0 (W.accepted h e i ok)), W.fits_after h e i ok a.1)
      go false ok = a

module _ (W : Way) (v : Version) where
  abbrev hears_at : History → W.Item → Heard
  hears_at h i = hears v (place h) (bytes_of (W.given_of i))

  -- what the messages of a list get, and the history that they leave
  unfoldable pub get_all : History → List W.Item → List W.Gets
  get_all h [] = []
  get_all h (i ∷ l) = W.gets h (hears_at h i) i ∷ get_all (next W h (hears_at h i) i) l

  unfoldable leave : History → List W.Item → History
  leave h [] = h
  leave h (i ∷ l) = leave (next W h (hears_at h i) i) l

  get-append : (k l : List W.Item) (h : History) → get_all h (k ++ l) ≡ get_all h k ++ get_all (leave h k) l
  unfolding get_all leave
  get-append [] l h = refl
  get-append (i ∷ k) l h = ap (λ (t : List W.Gets). W.gets h (hears_at h i) i ∷ t) (get-append k l (next W h (hears_at h i) i))

  leave_append : (k l : List W.Item) (h : History) → leave h (k ++ l) ≡ leave (leave h k) l
  unfolding leave
  leave_append [] l h = refl
  leave_append (i ∷ k) l h = leave_append k l (next W h (hears_at h i) i)

  get-length : (k : List W.Item) (h : History) → length (get_all h k) ≡ length k
  unfolding get_all
  get-length [] h = refl
  get-length (i ∷ k) h = ap suc (get-length k (next W h (hears_at h i) i))

  -- the rooms hold out, whatever the list
  reached_all : (l : List W.Item) (h : History) → Reached W h → Reached W (leave h l)
  unfolding leave
  reached_all [] h a = a
  reached_all (i ∷ l) h a = reached_all l (next W h (hears_at h i) i) (reached_next W h (hears_at h i) i (hears_well v (place h) (bytes_of (W.given_of i))) a)

  -- HISTORIES THAT ARE ALIKE

  like_all : (l : List W.Item) (h k : History) → W.Like h k → get_all h l ≡ get_all k l
  unfolding get_all
  like_all [] h k a = refl
  like_all (i ∷ l) h k a = ap (λ (p : Place). this h (hears v p (bytes_of (W.given_of i)))) (W.like_place h k a) ∙ one (hears_at k i) (like_all l)
    where
      this : History → Heard → List W.Gets
      this h m = W.gets h m i ∷ get_all (next W h m i) l

      then : ((h k : History) → W.Like h k → get_all h l ≡ get_all k l) → (e : Event) (b : Bool)
          → get_all (cond b (entry e (W.given_of i) ∷ h) h) l ≡ get_all (cond b (entry e (W.given_of i) ∷ k) k) l
      then f e true = f (entry e (W.given_of i) ∷ h) (entry e (W.given_of i) ∷ k) (W.like_after h k a e i)
      then f e false = f h k a

      one : (m : Heard) → ((h k : History) → W.Like h k → get_all h l ≡ get_all k l) → this h m ≡ this k m
      one (unread n o) f = ap₂ (λ (g : W.Gets) (t : List W.Gets). g ∷ t) (W.like_gets h k a (unread n o) i) (f h k a)
      one (heard e) f =
          let y = W.like_gets h k a (heard e) i in
          ap₂ (λ (g : W.Gets) (t : List W.Gets). g ∷ t) y
          (ap (λ (g : W.Gets). get_all (cond (W.taken g) (entry e (W.given_of i) ∷ h) h) l) y ∙ then f e (W.taken (W.gets k (heard e) i)))

  -- ONE MESSAGE that is taken

  module _ (h : History) (i : W.Item) (l : List W.Item) (e : Event) (q : hears_at h i ≡ heard e) where
    got_first : W.taken (W.gets h (heard e) i) ≡ true → get_all h (i ∷ l) ≡ W.gets h (heard e) i ∷ get_all (entry e (W.given_of i) ∷ h) l
    unfolding get_all
    got_first ok = rw (q, ok)

    left_first : W.taken (W.gets h (heard e) i) ≡ true → leave h (i ∷ l) ≡ leave (entry e (W.given_of i) ∷ h) l
    unfolding leave
    left_first ok = rw (q, ok)

    -- the first of a list that is taken, and the others
    taking : all_taken W (get_all h (i ∷ l)) ≡ true → (W.taken (W.gets h (heard e) i) ≡ true) × (all_taken W (get_all (entry e (W.given_of i) ∷ h) l) ≡ true)
    unfolding get_all
    taking a =
        let t = and_parts (W.taken (W.gets h (heard e) i)) (all_taken W (get_all (cond (W.taken (W.gets h (heard e) i)) (entry e (W.given_of i) ∷ h) h) l)) (rw q at a) in
        (t.0, rw t.0 at t.1)

  was_heard : (h : History) (i : W.Item) (l : List W.Item) → all_taken W (get_all h (i ∷ l)) ≡ true → {n o : ℕ} {A : Type 0} → hears_at h i ≡ unread n o → A
  unfolding get_all
  was_heard h i l a {n} {o} q = absurd (false≢true (rw (q, W.unread_not h n o i) at a))

  -- A BLOCK OF x that was taken, or the rest of one: its entries; and from every other history that is alike at x, and has room for them, it gets the same
  record Turned (x : ℕ) (h : History) (l : List W.Item) : Type 0 where
    entries : List Entry
    along : Along x entries h
    leaves : leave h l ≡ onto entries h
    idle : place (onto entries h) ≡ Idle
    again : (k : History) → place h ≡ place k → AlikeAt x h k → ((o : ℕ) → common h o ≡ common k o) → Within (onto entries k) → W.Fits (onto entries k)
        → (get_all h l ≡ get_all k l) × (leave k l ≡ onto entries k)

  module _ (x : ℕ) (nz : NonZero x) where
    no_more : (h : History) → place h ≡ Idle → Turned x h []
    unfolding leave get_all
    no_more h p = record { entries = []; along = tt; leaves = refl; idle = p; again = λ k q a c w f. (refl, refl) }

    one_more : (h : History) (i : W.Item) (l : List W.Item) (e : Event) → hears_at h i ≡ heard e → W.taken (W.gets h (heard e) i) ≡ true → Turn x h e
        → Turned x (entry e (W.given_of i) ∷ h) l → Turned x h (i ∷ l)
    one_more h i l e q ok t R = record {
      entries = entry e g ∷ R.entries;
      along = (t, R.along);
      leaves = left_first h i l e q ok ∙ R.leaves;
      idle = R.idle;
      again = λ k p a c w f.
          let u = turn_other p t in
          let after = along_other x R.entries (entry e g ∷ h) (entry e g ∷ k) (ap (place_after e) p) R.along in
          let j = turn_same x nz h k g a c t u (W.accepted h e i ok) (along_fills x nz R.entries (entry e g ∷ k) after w) in
          let ok' = W.takes x k e i u (ap accepts (sym j) ∙ W.accepted h e i ok) (fits_along W x R.entries (entry e g ∷ k) after f) in
          let q' : hears_at k i ≡ heard e = ap (λ (s : Place). hears v s (bytes_of g)) (sym p) ∙ q in
          let r = R.again (entry e g ∷ k) (ap (place_after e) p) (at_after p a e g) (λ o. (turn_stays x h g t).shared o ∙ c o ∙ sym ((turn_stays x k g u).shared o)) w f in (
            got_first h i l e q ok ∙ ap₂ (λ (s : W.Gets) (r : List W.Gets). s ∷ r) (W.same x h k e i t u ok ok' j) r.0 ∙ sym (got_first k i l e q' ok'),
            left_first k i l e q' ok' ∙ r.1,
          );
    }
      where
        g : Given
        g = W.given_of i

    -- behind the S
    abbrev Rest : List W.Item → Type 0
    Rest l = (h : History) → place h ≡ Block x → all_taken W (get_all h l) ≡ true → Turned x h l

    module _ (i : W.Item) (l : List W.Item) (h : History) (p : place h ≡ Block x) (a : all_taken W (get_all h (i ∷ l)) ≡ true) where
      there : (m : Heard) → hears v (Block x) (bytes_of (W.given_of i)) ≡ m → hears_at h i ≡ m
      there m q = ap (λ (c : Place). hears v c (bytes_of (W.given_of i))) p ∙ q

      inside : (e : Event) → hears v (Block x) (bytes_of (W.given_of i)) ≡ heard e
          → (turn.Inner e → all_taken W (get_all (entry e (W.given_of i) ∷ h) l) ≡ true → Turned x (entry e (W.given_of i) ∷ h) l) → Turned x h (i ∷ l)
      inside e w f =
          let q = there (heard e) w in
          let t = taking h i l e q a in
          let n = inner x h p e (W.accepted h e i t.0) in
          one_more h i l e q t.0 (turn.goes p n) (f n t.1)

      further : (hears v (Block x) (bytes_of (W.given_of i)) ≡ heard StreamStop → ⊥) → Rest l → Turned x h (i ∷ l)
      further z f = go (hears v (Block x) (bytes_of (W.given_of i))) refl
        where
          go : (m : Heard) → hears v (Block x) (bytes_of (W.given_of i)) ≡ m → Turned x h (i ∷ l)
          go (unread n o) w = was_heard h i l a (there (unread n o) w)
          go (heard e) w = inside e w (λ n r. f (entry e (W.given_of i) ∷ h) (turn_open x h p n (λ s. z (w ∙ ap heard s))) r)

    to_stop : (l : List W.Item) → ToStop v x (map W.given_of l) → Rest l
    to_stop [] b h p a = elim b [ ]
    to_stop (i ∷ []) (stops w) h p a = inside i [] h p a StreamStop w (λ n r. no_more (entry StreamStop (W.given_of i) ∷ h) refl)
    to_stop (i ∷ []) (goes z s) h p a = further i [] h p a z (to_stop [] s)
    to_stop (i ∷ (j ∷ l)) (goes z s) h p a = further i (j ∷ l) h p a z (to_stop (j ∷ l) s)

  -- A WHOLE BLOCK stands where history is idle, and its xid is not 0
  record Block-turned (x : ℕ) (h : History) (l : List W.Item) : Type 0 where
    proper : NonZero x
    idle : place h ≡ Idle
    turned : Turned x h l

  block_turned : (x : ℕ) (l : List W.Item) → BlockOf v x (map W.given_of l) → (h : History) → all_taken W (get_all h l) ≡ true → Block-turned x h l
  block_turned x [] b h a = elim b [ ]
  block_turned x (i ∷ l) (starts {first = first} w s) h a =
      record { proper = nz; idle = p; turned = one_more x nz h i l e q t.0 (turn.starts p) (to_stop x nz l s (entry e (W.given_of i) ∷ h) refl t.1) }
    where
      xs : List ℕ
      xs = bytes_of (W.given_of i)

      e : Event
      e = StreamStart x (eqb first 1)

      -- an S that is taken was heard as one
      q : hears_at h i ≡ heard (StreamStart x (eqb first 1))
      q = go (read_message v (in_block (place h)) (bytes_of (W.given_of i))) refl
        where
          go : (r : Read) → read_message v (in_block (place h)) xs ≡ r → heard_of (read_message v (in_block (place h)) xs) xs ≡ heard (StreamStart x (eqb first 1))
          go (Err r) u = was_heard h i l a (ap (λ (s : Read). heard_of s xs) u)
          go (Ok n) u = ap (λ (s : Read). heard_of s xs) u ∙ ap (λ (s : Message). heard (event_of s xs)) (start_anywhere v (in_block (place h)) xs x first n w u)

      t : (W.taken (W.gets h (heard e) i) ≡ true) × (all_taken W (get_all (entry e (W.given_of i) ∷ h) l) ≡ true)
      t = taking h i l e q a

      nz : NonZero x
      nz = (rw q at (hears_well v (place h) (bytes_of (W.given_of i)))).0.0

      p : place h ≡ Idle
      p = go (place h) refl (W.accepted h e i t.0)
        where
          go : (c : Place) → place h ≡ c → accepts (judge rooms h (StreamStart x (eqb first 1))) ≡ true → place h ≡ Idle
          go Idle u ok = u
          go (Transaction n) u ok = absurd (false≢true (rw u at ok))
          go (Block y) u ok = absurd (false≢true (rw u at ok))

  -- TWO BLOCKS CHANGE PLACES
  module _ (x y : ℕ) (d : x ≡ y → ⊥) (one two : List W.Item) (b : BlockOf v x (map W.given_of one)) (c : BlockOf v y (map W.given_of two)) (h : History)
      (a1 : all_taken W (get_all h one) ≡ true) (a2 : all_taken W (get_all (leave h one) two) ≡ true) (reached : Reached W h) where
    first : Block-turned x h one
    first = block_turned x one b h a1

    abbrev f : List Entry
    f = first.turned.entries

    after_one : leave h one ≡ onto f h
    after_one = first.turned.leaves

    second : Block-turned y (onto f h) two
    second = block_turned y two c (onto f h) (ap (λ (k : History). all_taken W (get_all k two)) (sym after_one) ∙ a2)

    abbrev s : List Entry
    s = second.turned.entries

    after_both : leave (leave h one) two ≡ onto s (onto f h)
    after_both = ap (λ (k : History). leave k two) after_one ∙ second.turned.leaves

    blocks : Blocks x y h f s
    blocks = record {
      differ = d;
      first = first.turned.along;
      second = second.turned.along;
      before = first.idle;
      between = second.idle;
      behind = second.turned.idle;
    }

    like : W.Like (onto s (onto f h)) (onto f (onto s h))
    like = W.like_blocks x y h f s blocks

    -- the rooms hold out behind both, so they do behind both in the other order, and behind the second alone
    reached_both : Reached W (onto s (onto f h))
    reached_both = subst (Reached W) after_both (reached_all two (leave h one) (reached_all one h reached))

    within : Within (onto f (onto s h))
    within = within_alike (either_alike blocks) (agreed_within reached_both.0.0 (onto s (onto f h)) reached_both.0.1)

    fits : W.Fits (onto f (onto s h))
    fits = W.fits_like (onto s (onto f h)) (onto f (onto s h)) like reached_both.1

    second_again : (get_all (onto f h) two ≡ get_all h two) × (leave h two ≡ onto s h)
    second_again =
        second.turned.again h (second.idle ∙ sym first.idle) ((stays_first blocks).others y (ne_eqb x y d)) (stays_first blocks).shared
        (along_fills x first.proper f (onto s h) (first_behind blocks) within) (fits_along W x f (onto s h) (first_behind blocks) fits)

    first_again : (get_all h one ≡ get_all (onto s h) one) × (leave (onto s h) one ≡ onto f (onto s h))
    first_again =
        first.turned.again (onto s h) (first.idle ∙ sym (second_idle blocks))
        (at_sym ((stays_second blocks).others x (ne_eqb y x (λ e. d (sym e))))) (λ o. sym ((stays_second blocks).shared o)) within fits

    first-same : get_all h one ≡ get_all (leave h two) one
    first-same = first_again.0 ∙ ap (λ (k : History). get_all k one) (sym second_again.1)

    second-same : get_all (leave h one) two ≡ get_all h two
    second-same = ap (λ (k : History). get_all k two) after_one ∙ second_again.0

    later_same : (l : List W.Item) → get_all (leave (leave h one) two) l ≡ get_all (leave (leave h two) one) l
    later_same l =
        ap (λ (k : History). get_all k l) after_both
        ∙ like_all l (onto s (onto f h)) (onto f (onto s h)) like
        ∙ ap (λ (k : History). get_all k l) (sym (ap (λ (k : History). leave k one) second_again.1 ∙ first_again.1))

  -- LISTS, from nothing, by a function that gets what this way gets
  module _ (run : List W.Item → List W.Gets) (is : (l : List W.Item) → run l ≡ get_all [] l) where
    from : (k l : List W.Item) → gets_after run k l ≡ get_all (leave [] k) l
    from k l = ap (drop (length k)) (is (k ++ l) ∙ get-append k l []) ∙ drop_at (get_all [] k) (get_all (leave [] k) l) (length k) (get-length k [])

    from_two : (k l m : List W.Item) → gets_after run (k ++ l) m ≡ get_all (leave (leave [] k) l) m
    from_two k l m = from (k ++ l) m ∙ ap (λ (h : History). get_all h m) (leave_append k l [])

  pub either_order :
      (run run' : List W.Item → List W.Gets) → ((l : List W.Item) → run l ≡ get_all [] l) → ((l : List W.Item) → run' l ≡ get_all [] l)
      → (x y : ℕ) → (x ≡ y → ⊥) → (before one two later : List W.Item) → BlockOf v x (map W.given_of one) → BlockOf v y (map W.given_of two)
      → all_taken W (gets_after run before (one ++ two)) ≡ true → EitherOrder run run' before one two later
  either_order run run' is is' x y d before one two later b c p = record {
    earlier = is before ∙ sym (is' before);
    first = from run is before one ∙ first-same x y d one two b c h i.0 i.1 reached ∙ sym (from_two run' is' before two one);
    second = from_two run is before one two ∙ second-same x y d one two b c h i.0 i.1 reached ∙ sym (from run' is' before two);
    later =
        from_two run is before (one ++ two) later ∙ ap (λ (k : History). get_all k later) (leave_append one two h)
        ∙ later_same x y d one two b c h i.0 i.1 reached later
        ∙ sym (from_two run' is' before (two ++ one) later ∙ ap (λ (k : History). get_all k later) (leave_append two one h));
  }
    where
      h : History
      h = leave [] before

      reached : Reached W (leave [] before)
      reached = reached_all before [] ((fresh_by sorted, fresh sorted sorted_lawful), W.fits-none)

      i : (all_taken W (get_all h one) ≡ true) × (all_taken W (get_all (leave h one) two) ≡ true)
      i = both_taken W (get_all h one) (get_all (leave h one) two) (ap (all_taken W) (sym (from run is before (one ++ two) ∙ get-append one two h)) ∙ p)
