-- To be believed (`same-answers` alone). THE LAYOUT BEFORE: 256 rows in any order, of which those with OID 0 are free; a search goes from the first on. No code has it now.
use Rattle.std.specs.Prelude.{ℕ, List, Bool, cond, not, ◌&&◌, eqb, length, replicate}
use Rattle.wire.specs.Lists.{any, keep, change, replace_first, first_of}
use Rattle.session.specs.History.{Announced, unannounced, announced}
use Rattle.session.specs.State.{Layout}

pub record Row : Type 0 where
  pub holder : ℕ
  pub oid : ℕ
  pub tag : ℕ
  pub identity : ℕ
  pub columns : ℕ

abbrev pub row : ℕ → ℕ → ℕ → ℕ → ℕ → Row
row h o g i c = record { holder = h; oid = o; tag = g; identity = i; columns = c }

abbrev pub key_is : ℕ → ℕ → Row → Bool
key_is holder oid r = eqb r.holder holder && eqb r.oid oid

abbrev pub is_free : Row → Bool
is_free r = eqb r.oid 0

abbrev pub found_in : Row → Announced
found_in r = announced r.tag r.identity r.columns

abbrev pub lookup_in : (Row → Bool) → List Row → Announced
lookup_in p l = first_of found_in unannounced p l

abbrev pub free_row : Row
free_row = record { holder = 0; oid = 0; tag = 0; identity = 0; columns = 0 }

abbrev pub common_row : Row → Row
common_row r = record { holder = 0; oid = r.oid; tag = r.tag; identity = r.identity; columns = r.columns }

-- a row after its holder t is gone
abbrev pub dropped : ℕ → Row → Row
dropped t r = cond (eqb r.holder t) free_row r

-- a row after t committed: t's are common, and free the common ones that they replace
abbrev pub released : ℕ → List Row → Row → Row
released t old r =
    cond (eqb r.holder t) (common_row r)
    (cond (eqb r.holder 0 && any (key_is t r.oid) old) free_row r)

-- the row in the place of the one with its key, else in a free place
abbrev pub put_row : Row → List Row → List Row
put_row r l =
    cond (any (key_is r.holder r.oid) l) (replace_first (key_is r.holder r.oid) r l) (replace_first is_free r l)

abbrev pub is_used : Row → Bool
is_used r = not (is_free r)

abbrev pub first_fit : Layout
first_fit = record {
  Rows = List Row;
  none = replicate 256 free_row;
  find = λ l t o. lookup_in (key_is t o) l;
  used = λ l. length (keep is_used l);
  put = λ l t o g i c. put_row (row t o g i c) l;
  discard = λ l x. change (dropped x) l;
  release = λ l x. change (released x l) l;
}
