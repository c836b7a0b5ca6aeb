-- Messages in one slice, given one after another. Assumes nothing.
use Prim.Native.Nat.{ℕ, zero, suc, ◌+◌, ◌-◌, ◌<◌, ◌≤◌}
use mathlib.Core.List.{List, [], ◌∷◌}
use mathlib.Core.Bool.{Bool, true, false, cond, ◌&&◌}
use mathlib.Core.Logic.{◌⊎◌, inl, inr}
use mathlib.Core.Path.{◌≡◌, refl, ◌∙◌}
use denote.Bor.{Bor}
use Rattle.std.specs.Prelude.{Option, Some, None, unwrap_or, leb}
use Rattle.std.specs.Slice.{IsGetRangeResult}
use native.Mathlib.Numerals.{add-one}
use borrow.Author.Tests.{le-leb, lt-leb}
use lib.ListN.{length, take, drop, get_or, drop_of_length-le}
use lib.Seq.{drop-cons}
use Rattle.wire.specs.Lists.{first, rest}
use Rattle.session.specs.Answers.{Answer}
use Rattle.session.specs.declared.Session.{Session}
use Rattle.session.specs.declared.Stepped.{Stepped}
use Rattle.session.specs.Machine.{step_of}
use Rattle.session.specs.Runs.{run}
use Rattle.session.specs.Listed.{between, messages_in, last_or}

-- what lies between two places of a slice, as `get` finds it
pub part_is : (start end : ℕ) (xs : List ℕ) (r : Option (Bor (List ℕ))) (none : Bor (List ℕ)) → none.now ≡ [] → IsGetRangeResult xs start end r
    → (unwrap_or r none).now ≡ between start end xs
unfolding between
part_is start end xs (Some x) none e h = rw (le-leb start end h.0.0, le-leb end (length xs) h.0.1) h.0.2
part_is start end xs None none e h = e ∙ go h.0
  where
    go : (end < start) ⊎ (length xs < end) → [] ≡ between start end xs
    go (inl k) = rw (lt-leb start end k)
    go (inr k) = elsewhere (leb start end)
      where
        elsewhere : (v : Bool) → [] ≡ cond (v && leb end (length xs)) (take (end - start) (drop start xs)) []
        elsewhere true = rw (lt-leb end (length xs) k)
        elsewhere false = refl

first-drop : (l : List ℕ) (i : ℕ) → first (drop i l) ≡ get_or l i 0
first-drop [] zero = refl
first-drop [] (suc i) = refl
first-drop (a ∷ l) zero = refl
first-drop (a ∷ l) (suc i) = first-drop l i

rest-drop : (l : List ℕ) (i : ℕ) → rest (drop i l) ≡ drop (suc i) l
rest-drop [] zero = refl
rest-drop [] (suc i) = refl
rest-drop (a ∷ l) zero = refl
rest-drop (a ∷ l) (suc i) = rest-drop l i

module _ (xs ends tags : List ℕ) (s : Session) (a : Answer) (start i : ℕ) {whole : Answer} where
  -- a turn of the loop: message i is given, and those after it are left
  pub turn :
      i < length ends → (tag : ℕ) → tag ≡ get_or tags i 0 → (n : Stepped) → n ≡ step_of s (between start (get_or ends i 0) xs) tag
      → last_or a (run s (messages_in xs start (drop i ends) (drop i tags))) ≡ whole
      → last_or n.answer (run n.session (messages_in xs (get_or ends i 0) (drop (i + 1) ends) (drop (i + 1) tags))) ≡ whole
  unfolding run
  turn h tag e n q = rw (q, e, add-one, drop-cons ends i 0, first-drop tags i, rest-drop tags i) (λ inv. inv)

  -- the end of the loop
  pub done : length ends ≤ i → last_or a (run s (messages_in xs start (drop i ends) (drop i tags))) ≡ whole → a ≡ whole
  unfolding run
  done h = rw (drop_of_length-le ends {i = i} h) (λ inv. inv)
