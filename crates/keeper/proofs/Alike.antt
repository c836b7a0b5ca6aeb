-- Histories that the rules with a keeper cannot tell apart: also what each transaction kept, in order, and how many bytes are held. Assumes nothing.
use Prim.Native.Nat.{ℕ, ◌+◌}
use native.Mathlib.Omega.{arith}
use mathlib.Core.Path.{◌≡◌, refl, sym, ◌∙◌, ap}
use mathlib.Core.List.{List, [], ◌∷◌, ◌++◌, append-nil, append_assoc}
use mathlib.Core.Bool.{Bool, true, false, cond, not, ◌&&◌, false≢true}
use borrow.Author.Tests.{eqb-true, eq-eqb, ne_eqb}
use lib.Dec.{eqb}
use lib.ListN.{length}
use Rattle.wire.specs.Lists.{keep}
use Rattle.session.specs.declared.Place.{Place}
use Rattle.session.specs.declared.Place.TheVariants.{Idle, Transaction, Block}
use Rattle.session.specs.Events.{Event}
use Rattle.session.specs.History.{given, Entry, entry, History, place}
use Rattle.wire.proofs.Tests.{and_parts}
use Rattle.session.proofs.Alike as session
use Rattle.session.proofs.Stays.{Inner, origin, relation, change, truncate, neutral, logical, stop, Turn, starts, goes, onto, Along, Blocks, second_before, first_behind, either_alike}
use Rattle.keeper.specs.Rules.{Kept, kept, is_of, without, Doing, nothing, keeps, frees, drops, doing, joined, is_dropped, kept_after, kept_in, released_by, size, sizes, ruled, judge_kept}

-- LISTS

module _ {A : Type 0} where
  keep_append : (p : A → Bool) (k l : List A) → keep p (k ++ l) ≡ keep p k ++ keep p l
  keep_append p [] l = refl
  keep_append p (a ∷ k) l = go (p a) (keep_append p k l)
    where
      go : (v : Bool) → keep p (k ++ l) ≡ keep p k ++ keep p l → cond v (a ∷ keep p (k ++ l)) (keep p (k ++ l)) ≡ cond v (a ∷ keep p k) (keep p k) ++ keep p l
      go true r = ap (λ (t : List A). a ∷ t) r
      go false r = r

  -- the order of two tests does not matter
  keep_swap : (p q : A → Bool) (l : List A) → keep p (keep q l) ≡ keep q (keep p l)
  keep_swap p q [] = refl
  keep_swap p q (a ∷ l) = go (p a) (q a) refl refl (keep_swap p q l)
    where
      go : (u v : Bool) → p a ≡ u → q a ≡ v → keep p (keep q l) ≡ keep q (keep p l)
          → keep p (cond (q a) (a ∷ keep q l) (keep q l)) ≡ keep q (cond (p a) (a ∷ keep p l) (keep p l))
      go true true eu ev r = rw (eu, ev, eu) (ap (λ (t : List A). a ∷ t) r)
      go true false eu ev r = rw (eu, ev) r
      go false true eu ev r = rw (eu, ev, eu) r
      go false false eu ev r = rw (eu, ev) r

  -- a weaker test before it does not matter
  keep-within : (p q : A → Bool) → ((a : A) → p a ≡ true → q a ≡ true) → (l : List A) → keep p (keep q l) ≡ keep p l
  keep-within p q f [] = refl
  keep-within p q f (a ∷ l) = go (p a) (q a) refl refl (keep-within p q f l)
    where
      go : (u v : Bool) → p a ≡ u → q a ≡ v → keep p (keep q l) ≡ keep p l → keep p (cond (q a) (a ∷ keep q l) (keep q l)) ≡ cond (p a) (a ∷ keep p l) (keep p l)
      go true true eu ev r = rw (ev, eu) (ap (λ (t : List A). a ∷ t) r)
      go true false eu ev r = absurd (false≢true (sym ev ∙ f a eu))
      go false true eu ev r = rw (ev, eu) r
      go false false eu ev r = rw (ev, eu) r

-- SIZES

pub sizes-append : (ks ls : List Kept) → sizes (ks ++ ls) ≡ sizes ks + sizes ls
sizes-append [] ls = omega arith
sizes-append (k ∷ ks) ls = omega (arith, sizes-append ks ls)

pub sizes_split : (p : Kept → Bool) (ks : List Kept) → sizes (without p ks) + sizes (keep p ks) ≡ sizes ks
sizes_split p [] = refl
sizes_split p (k ∷ ks) = go (p k) (sizes_split p ks)
  where
    go : (v : Bool) → sizes (without p ks) + sizes (keep p ks) ≡ sizes ks
        → sizes (cond (not v) (k ∷ without p ks) (without p ks)) + sizes (cond v (k ∷ keep p ks) (keep p ks)) ≡ size k + sizes ks
    go true r = omega arith
    go false r = omega arith

-- ALIKE

-- the same is kept in transaction t
abbrev SameOf : ℕ → List Kept → List Kept → Type 0
SameOf t ks ls = keep (is_of t) ks ≡ keep (is_of t) ls

pub record Alike (h k : History) : Type 0 where
  pub told : session.Alike h k
  pub kept : (t : ℕ) → SameOf t (kept_in h) (kept_in k)
  pub held : sizes (kept_in h) ≡ sizes (kept_in k)

-- WHAT IS ALIKE STAYS ALIKE, whatever the message

module _ (t : ℕ) (xs : List ℕ) (ks ls : List Kept) (s : SameOf t ks ls) where
  same-joined : (p : Place) (own : ℕ) → SameOf t (joined p own xs ks) (joined p own xs ls)
  same-joined Idle own = s
  same-joined (Transaction l) own = s
  same-joined (Block x) own =
      keep_append (is_of t) ks (kept x own xs ∷ []) ∙ ap (λ (l : List Kept). l ++ keep (is_of t) (kept x own xs ∷ [])) s ∙ sym (keep_append (is_of t) ls (kept x own xs ∷ []))

  same-without : (p : Kept → Bool) → SameOf t (without p ks) (without p ls)
  same-without p = keep_swap (is_of t) (λ k. not (p k)) ks ∙ ap (without p) s ∙ sym (keep_swap (is_of t) (λ k. not (p k)) ls)

  same_after : (d : Doing) (p : Place) → SameOf t (kept_after d p xs ks) (kept_after d p xs ls)
  same_after nothing p = s
  same_after (keeps own) p = same-joined p own
  same_after (frees x) p = same-without (is_of x)
  same_after (drops x sub) p = same-without (is_dropped x sub)

-- what an A drops of x is told by what x kept
dropped_of : (x sub : ℕ) (l : List Kept) → keep (is_dropped x sub) (keep (is_of x) l) ≡ keep (is_dropped x sub) l
dropped_of x sub = keep-within (is_dropped x sub) (is_of x) within
  where
    within : (k : Kept) → is_dropped x sub k ≡ true → is_of x k ≡ true
    within (kept top own bs) = go (eqb x sub)
      where
        go : (v : Bool) → cond v (eqb top x) (eqb own sub && eqb top x) ≡ true → eqb top x ≡ true
        go true e = e
        go false e = (and_parts (eqb own sub) (eqb top x) e).1

module _ (xs : List ℕ) (ks ls : List Kept) (s : (t : ℕ) → SameOf t ks ls) (n : sizes ks ≡ sizes ls) where
  sizes-joined : (p : Place) (own : ℕ) → sizes (joined p own xs ks) ≡ sizes (joined p own xs ls)
  sizes-joined Idle own = n
  sizes-joined (Transaction l) own = n
  sizes-joined (Block x) own = omega (arith, sizes-append ks (kept x own xs ∷ []), sizes-append ls (kept x own xs ∷ []))

  sizes-without : (p : Kept → Bool) → keep p ks ≡ keep p ls → sizes (without p ks) ≡ sizes (without p ls)
  sizes-without p e = omega (arith, sizes_split p ks, sizes_split p ls, ap sizes e)

  sizes-after : (d : Doing) (p : Place) → sizes (kept_after d p xs ks) ≡ sizes (kept_after d p xs ls)
  sizes-after nothing p = n
  sizes-after (keeps own) p = sizes-joined p own
  sizes-after (frees x) p = sizes-without (is_of x) (s x)
  sizes-after (drops x sub) p = sizes-without (is_dropped x sub) (sym (dropped_of x sub ks) ∙ ap (keep (is_dropped x sub)) (s x) ∙ dropped_of x sub ls)

  same-released : (d : Doing) → released_by d ks ≡ released_by d ls
  same-released nothing = refl
  same-released (keeps own) = refl
  same-released (frees x) = s x
  same-released (drops x sub) = refl

module _ {h k : History} (a : Alike h k) (e : Event) (xs : List ℕ) where
  pub alike_after : (g : ℕ) → Alike (entry e (given xs g) ∷ h) (entry e (given xs g) ∷ k)
  alike_after g = record {
    told = session.alike_after a.told e (given xs g);
    kept = λ t. ap (λ (q : Place). keep (is_of t) (kept_after (doing e) q xs (kept_in h))) a.told.at ∙ same_after t xs (kept_in h) (kept_in k) (a.kept t) (doing e) (place k);
    held = ap (λ (q : Place). sizes (kept_after (doing e) q xs (kept_in h))) a.told.at ∙ sizes-after xs (kept_in h) (kept_in k) a.kept a.held (doing e) (place k);
  }

  pub alike_released : released_by (doing e) (kept_in h) ≡ released_by (doing e) (kept_in k)
  alike_released = same-released xs (kept_in h) (kept_in k) a.kept a.held (doing e)

  pub alike_judged : (room n : ℕ) → judge_kept room n h e xs ≡ judge_kept room n k e xs
  alike_judged room n = λ i.
      ruled (record { room = room; held = a.held i; output = n; released = sizes (alike_released i) }) (doing e) (a.told.at i) (length xs) (session.alike_judged a.told e i)

-- IN A BLOCK OF x

-- all of them are of x
abbrev pub AllOf : ℕ → List Kept → Type 0
AllOf x [] = Unit {0}
AllOf x (k ∷ ks) = (is_of x k ≡ true) × AllOf x ks

all_append : (x : ℕ) (ks ls : List Kept) → AllOf x ks → AllOf x ls → AllOf x (ks ++ ls)
all_append x [] ls a b = b
all_append x (k ∷ ks) ls a b = (a.0, all_append x ks ls a.1 b)

none_of : (x t : ℕ) → eqb x t ≡ false → (ks : List Kept) → AllOf x ks → keep (is_of t) ks ≡ []
none_of x t n [] a = refl
none_of x t n (kept top own xs ∷ ks) a = rw (eqb-true top x a.0, n) (none_of x t n ks a.1)

-- nothing is released and nothing dropped
abbrev pub Quiet : Doing → Type 0
Quiet nothing = Unit {0}
Quiet (keeps own) = Unit {0}
Quiet (frees x) = ⊥
Quiet (drops x sub) = ⊥

pub inner_quiet : {e : Event} → Inner e → Quiet (doing e)
inner_quiet origin = tt
inner_quiet relation = tt
inner_quiet change = tt
inner_quiet truncate = tt
inner_quiet neutral = tt
inner_quiet logical = tt
inner_quiet stop = tt

releases_nothing : (d : Doing) → Quiet d → (ks : List Kept) → released_by d ks ≡ []
releases_nothing nothing q ks = refl
releases_nothing (keeps own) q ks = refl
releases_nothing (frees y) q ks = absurd q
releases_nothing (drops y sub) q ks = refl

adds : (x : ℕ) (d : Doing) (xs : List ℕ) → Quiet d → (ks : List Kept) → (kept_after d (Block x) xs ks ≡ ks ++ kept_after d (Block x) xs []) × AllOf x (kept_after d (Block x) xs [])
adds x nothing xs q ks = (sym (append-nil ks), tt)
adds x (keeps own) xs q ks = (refl, (eq-eqb x x refl, tt))
adds x (frees y) xs q ks = absurd q
adds x (drops y sub) xs q ks = absurd q

module _ (x : ℕ) (h : History) where
  pub turn_releases : {e : Event} → Turn x h e → (ks : List Kept) → released_by (doing e) ks ≡ []
  turn_releases (starts p) ks = refl
  turn_releases (goes {e} p i) ks = releases_nothing (doing e) (inner_quiet i) ks

  pub turn_adds : {e : Event} → Turn x h e → (xs : List ℕ) (ks : List Kept)
      → (kept_after (doing e) (place h) xs ks ≡ ks ++ kept_after (doing e) (Block x) xs []) × AllOf x (kept_after (doing e) (Block x) xs [])
  turn_adds (starts p) xs ks = (sym (append-nil ks), tt)
  turn_adds (goes {e} p i) xs ks = rw p (adds x (doing e) xs (inner_quiet i) ks)

-- what a block of x adds, whatever was kept: all of it of x
abbrev added_by : ℕ → List Entry → List Kept
added_by x [] = []
added_by x (entry e (given xs g) ∷ es) = kept_after (doing e) (Block x) xs [] ++ added_by x es

along_adds : (x : ℕ) (es : List Entry) (h : History) → Along x es h → (kept_in (onto es h) ≡ kept_in h ++ added_by x es) × AllOf x (added_by x es)
along_adds x [] h a = (sym (append-nil (kept_in h)), tt)
along_adds x (entry e (given xs g) ∷ es) h a =
    let n = kept_after (doing e) (Block x) xs [] in
    let t = turn_adds x h a.0 xs (kept_in h) in
    let r = along_adds x es (entry e (given xs g) ∷ h) a.1 in
    (r.0 ∙ ap (λ (l : List Kept). l ++ added_by x es) t.0 ∙ append_assoc (kept_in h) n (added_by x es), all_append x n (added_by x es) t.1 r.1)

-- what two transactions kept, in either order
module _ (x y : ℕ) (d : x ≡ y → ⊥) (ks f s : List Kept) (a : AllOf x f) (b : AllOf y s) where
  swapped_kept : (t : ℕ) → SameOf t ((ks ++ f) ++ s) ((ks ++ s) ++ f)
  swapped_kept t = rw (keep_append (is_of t) (ks ++ f) s, keep_append (is_of t) ks f, keep_append (is_of t) (ks ++ s) f, keep_append (is_of t) ks s) (go (eqb x t) refl)
    where
      go : (v : Bool) → eqb x t ≡ v → (keep (is_of t) ks ++ keep (is_of t) f) ++ keep (is_of t) s ≡ (keep (is_of t) ks ++ keep (is_of t) s) ++ keep (is_of t) f
      go false n = rw (none_of x t n f a, append-nil (keep (is_of t) ks)) (sym (append-nil (keep (is_of t) ks ++ keep (is_of t) s)))
      go true w =
          let n : eqb y t ≡ false = ne_eqb y t (λ e. d (eqb-true x t w ∙ sym e)) in
          rw (none_of y t n s b, append-nil (keep (is_of t) ks)) (append-nil (keep (is_of t) ks ++ keep (is_of t) f))

  swapped_sizes : sizes ((ks ++ f) ++ s) ≡ sizes ((ks ++ s) ++ f)
  swapped_sizes = omega (arith, sizes-append (ks ++ f) s, sizes-append ks f, sizes-append (ks ++ s) f, sizes-append ks s)

pub alike_blocks : (x y : ℕ) (h : History) (f s : List Entry) → Blocks x y h f s → Alike (onto s (onto f h)) (onto f (onto s h))
alike_blocks x y h f s b = record {
  told = either_alike b;
  kept = λ t. rw (left, right) (swapped_kept x y b.differ (kept_in h) (added_by x f) (added_by y s) F.1 S.1 t);
  held = rw (left, right) (swapped_sizes x y b.differ (kept_in h) (added_by x f) (added_by y s) F.1 S.1);
}
  where
    F : (kept_in (onto f h) ≡ kept_in h ++ added_by x f) × AllOf x (added_by x f)
    F = along_adds x f h b.first

    S : (kept_in (onto s h) ≡ kept_in h ++ added_by y s) × AllOf y (added_by y s)
    S = along_adds y s h (second_before b)

    left : kept_in (onto s (onto f h)) ≡ (kept_in h ++ added_by x f) ++ added_by y s
    left = (along_adds y s (onto f h) b.second).0 ∙ ap (λ (l : List Kept). l ++ added_by y s) F.0

    right : kept_in (onto f (onto s h)) ≡ (kept_in h ++ added_by y s) ++ added_by x f
    right = (along_adds x f (onto s h) (first_behind b)).0 ∙ ap (λ (l : List Kept). l ++ added_by x f) S.0
