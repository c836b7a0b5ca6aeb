-- The cases of reading a message, up to its fields. Assumes nothing.
use Prim.Native.Nat.{ℕ, ◌<◌, ◌≤◌}
use mathlib.Core.List.{List}
use mathlib.Core.Bool.{Bool, true, false, not, ◌&&◌, ◌||◌}
use Rattle.std.specs.Prelude.{Option, Some}
use mathlib.Core.Path.{◌≡◌, refl, ap, sym, ◌∙◌}
use borrow.Author.Tests.{lt-ltb, le-ltb, eq-eqb, ne_eqb}
use lib.Dec.{leb}
use lib.ListN.{length, get_or}
use Rattle.message.specs.declared.Version.{Version}
use Rattle.message.specs.declared.kinds.Kind.{Kind}
use Rattle.message.specs.Kinds.{first_version, letter_of, kind_of}
use Rattle.message.specs.Versions.{version_allows, version_has}
use Rattle.wire.specs.Cursors.{refuse}
use Rattle.message.specs.Messages.{largest, read_kind, read_named, read_message}
use Rattle.message.proofs.Letters.{of_letter}

-- a version that allows anything has the kinds of version 1
has_first : (v : Version) (b : Bool) (k : Kind) → first_version k ≡ 1 → version_allows v b ≡ true → version_has v (Some k) ≡ true
unfolding version_allows version_has
has_first v b k f h = rw f (go (leb 1 v.number) (leb v.number 2) (not b || leb 2 v.number) h)
  where
    go : (a b c : Bool) → ((a && b) && c) ≡ true → ((a && b) && a) ≡ true
    go true true c e = refl
    go true false c e = e
    go false b c e = e

module _ (v : Version) (b : Bool) (xs : List ℕ) where
  pub bad_version : version_allows v b ≡ false → refuse 1 0 ≡ read_message v b xs
  unfolding read_message
  bad_version h = rw h

  module _ (h : version_allows v b ≡ true) where
    pub too_long : largest < length xs → refuse 6 0 ≡ read_message v b xs
    unfolding read_message
    too_long l = rw (h, lt-ltb largest (length xs) l)

    module _ (l : length xs ≤ largest) where
      pub nothing : length xs ≡ 0 → refuse 2 0 ≡ read_message v b xs
      unfolding read_message
      nothing e = rw (h, le-ltb largest (length xs) l, eq-eqb (length xs) 0 e)

      module _ (e : length xs ≡ 0 → ⊥) where
        pub no_kind : version_has v (kind_of (get_or xs 0 0)) ≡ false → refuse 3 0 ≡ read_message v b xs
        unfolding read_message
        no_kind k = rw (h, le-ltb largest (length xs) l, ne_eqb (length xs) 0 e, k)

        pub by_kind : version_has v (kind_of (get_or xs 0 0)) ≡ true → read_named (kind_of (get_or xs 0 0)) b xs ≡ read_message v b xs
        unfolding read_message
        by_kind k = rw (h, le-ltb largest (length xs) l, ne_eqb (length xs) 0 e, k)

        -- the letter of a kind that every version has
        pub by_letter : (k : Kind) → first_version k ≡ 1 → get_or xs 0 0 ≡ letter_of k → read_kind k b xs ≡ read_message v b xs
        by_letter k f n =
            ap (λ (o : Option Kind). read_named o b xs) (sym is) ∙ by_kind (ap (version_has v) is ∙ has_first v b k f h)
          where
            is : kind_of (get_or xs 0 0) ≡ Some k
            is = ap kind_of n ∙ of_letter k
