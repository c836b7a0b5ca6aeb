-- For contracts only. The table of announcements: four lists of numbers, seen as one list of rows. The rows in use stand at the front, sorted by their keys.
use Rattle.std.specs.Prelude.{ℕ, zero, suc, ◌+◌, ◌*◌, ◌-◌, ◌/◌, ◌%◌, ◌<◌, ◌≡◌, List, [], ◌∷◌, ◌++◌, Bool, cond, not, ◌&&◌, eqb, ltb, leb, length, get_or, set, take, drop, Option, Some, None}
use Rattle.wire.specs.Lists.{first_of, keep, change, first, rest}
use Rattle.catalog.specs.declared.announcements.Announcement.{Announcement}
use Rattle.catalog.specs.declared.announcements.Announcements.{Announcements}
use Rattle.catalog.specs.declared.rows.Row.{Row}

-- a row's key is its holder and its OID in one number
abbrev pub row : ℕ → ℕ → ℕ → ℕ → Row
row k g i c = record { key = k; tag = g; identity = i; columns = c }

abbrev pub no_row : Row
no_row = record { key = 0; tag = 0; identity = 0; columns = 0 }

-- the holder first (0 is common), then the OID, a number of 32 bits
abbrev pub key_of : ℕ → ℕ → ℕ
key_of holder oid = holder * 4294967296 + oid

abbrev pub Small : ℕ → Type 0
Small o = o < 4294967296

abbrev pub held_by : ℕ → Row → Bool
held_by t r = eqb (r.key / 4294967296) t

abbrev pub not_held_by : ℕ → Row → Bool
not_held_by t r = not (held_by t r)

-- a row for each key; a list that is too short gives zeros
abbrev pub rows_of : List ℕ → List ℕ → List ℕ → List ℕ → List Row
rows_of [] tags identities columns = []
rows_of (k ∷ keys) tags identities columns =
    row k (first tags) (first identities) (first columns) ∷ rows_of keys (rest tags) (rest identities) (rest columns)

abbrev pub row_list : Announcements → List Row
row_list a = rows_of a.keys a.tags a.identities a.columns

-- the lengths that the arrays have
pub record Sized (a : Announcements) : Type 0 where
  pub keys_256 : length a.keys ≡ 256
  pub tags_256 : length a.tags ≡ 256
  pub identities_256 : length a.identities ≡ 256
  pub columns_256 : length a.columns ≡ 256

-- rows written from the front over what was there: behind them it is as it was
abbrev pub over : List Row → List Row → List Row
over new old = new ++ drop (length new) old

-- A SEARCH for the first place, of `size` from `base` on, whose key is not below `k`, where `at` has the keys.
-- ONE LOOK, at the middle: the search goes on behind it where its key is below, else from where it was; half of the places are left
abbrev pub looked : (ℕ → ℕ) → ℕ → ℕ → ℕ → ℕ
looked at k base size =
    cond (eqb size 0) base (cond (ltb (at (base + (size - 1) / 2)) k) (base + (size - 1) / 2 + 1) base)

-- n looks at most
unfoldable pub seek : ℕ → (ℕ → ℕ) → ℕ → ℕ → ℕ → ℕ
seek zero at k base size = base
seek (suc n) at k base size = seek n at k (looked at k base size) (size / 2)

abbrev pub key_at : List Row → ℕ → ℕ
key_at l i = (get_or l i no_row).key

-- with nine looks
abbrev pub place_in : ℕ → List Row → ℕ
place_in k l = seek 9 (key_at l) k 0 (length l)

-- whether the row there has the key
abbrev pub is_at : ℕ → ℕ → List Row → Bool
is_at k i l = ltb i (length l) && eqb (key_at l i) k

abbrev pub announcement : ℕ → ℕ → ℕ → Announcement
announcement g i c = record { tag = g; identity = i; columns = c }

abbrev pub found_in : Row → Option Announcement
found_in r = Some (announcement r.tag r.identity r.columns)

-- the announcement with a key
abbrev pub seen_in : ℕ → List Row → Option Announcement
seen_in k l = cond (is_at k (place_in k l) l) (found_in (get_or l (place_in k l) no_row)) None

abbrev pub has_in : ℕ → List Row → Bool
has_in k l = is_at k (place_in k l) l

-- no room for another row
abbrev pub is_full : ℕ → List Row → Bool
is_full room l = leb room (length l)

abbrev pub insert_at : ℕ → Row → List Row → List Row
insert_at i r l = take i l ++ r ∷ drop i l

-- the row in the place of the one with its key, else between its neighbours; rows that fill their room stay as they are
abbrev pub put_row : ℕ → Row → List Row → List Row
put_row room r l =
    cond (has_in r.key l) (set l (place_in r.key l) r) (cond (is_full room l) l (insert_at (place_in r.key l) r l))

-- one after the other
abbrev pub put_all : ℕ → List Row → List Row → List Row
put_all room [] l = l
put_all room (r ∷ rs) l = put_all room rs (put_row room r l)

-- the rows after their holder t is gone
abbrev pub dropped : ℕ → List Row → List Row
dropped t l = keep (not_held_by t) l

abbrev pub common_row : Row → Row
common_row r = record { key = r.key % 4294967296; tag = r.tag; identity = r.identity; columns = r.columns }

-- the rows after t committed: t's are gone, and put again as common ones
abbrev pub released : ℕ → ℕ → List Row → List Row
released room t l = put_all room (change common_row (keep (held_by t) l)) (dropped t l)

-- A TABLE IS A RANGE OF THE ROWS, `size` of them from `from` on: tables that share the arrays lie one behind the other
abbrev pub part : ℕ → ℕ → List Row → List Row
part from size l = take size (drop from l)

-- the rows in use when this table has the rows m: those before it, m, and `behind` rows of the tables behind it
abbrev pub within : ℕ → ℕ → ℕ → List Row → List Row → List Row
within from size behind m l = take from l ++ (m ++ part (from + size) behind l)

-- the room that the other tables leave
abbrev pub room_beside : ℕ → ℕ → ℕ → List Row → ℕ
room_beside from size behind l = 256 - (length (take from l) + length (part (from + size) behind l))

-- WHAT A CHANGE LEAVES: the table's rows are m, so many in number; the other tables and what is behind all rows in use are as they were
pub record Leaves (from size behind : ℕ) (m : List Row) (count : ℕ) (old rows : List Row) : Type 0 where
  pub number : count ≡ length m
  pub content : rows ≡ over (within from size behind m old) old

-- SORTED: each key is below all that stand behind it
abbrev pub Above : ℕ → List Row → Type 0
Above k [] = Unit {0}
Above k (r ∷ l) = (k < r.key) × Above k l

abbrev pub Sorted : List Row → Type 0
Sorted [] = Unit {0}
Sorted (r ∷ l) = Above r.key l × Sorted l

-- what a search row by row would find
abbrev pub key_is : ℕ → Row → Bool
key_is k r = eqb r.key k

abbrev pub lookup_in : (Row → Bool) → List Row → Option Announcement
lookup_in p l = first_of found_in None p l

-- an open streamed transaction, and a number that is not 0 where a change was accepted in it; an xid of 0 is a free place
pub record Stream : Type 0 where
  pub xid : ℕ
  pub changed : ℕ

abbrev pub streams_of : List ℕ → List ℕ → List Stream
streams_of [] marks = []
streams_of (x ∷ xids) marks = record { xid = x; changed = first marks } ∷ streams_of xids (rest marks)

abbrev pub is : ℕ → ℕ → Bool
is x y = eqb y x

abbrev pub xid_is : ℕ → Stream → Bool
xid_is x s = eqb s.xid x

abbrev pub changed_of : Stream → Bool
changed_of s = not (eqb s.changed 0)

abbrev pub free_stream : Stream
free_stream = record { xid = 0; changed = 0 }

abbrev pub new_stream : ℕ → Stream
new_stream x = record { xid = x; changed = 0 }

abbrev pub marked : ℕ → Stream → Stream
marked t s = cond (eqb s.xid t) (record { xid = s.xid; changed = 1 }) s
