-- For contracts only. THE TABLE OF ANNOUNCEMENTS as everything above knows it: by these names, which are shut, and by the laws of `proofs/Tables.antt`.
use Rattle.std.specs.Prelude.{ℕ, List, cond, leb, length, take, replicate, Option, None}
use Rattle.wire.specs.Lists.{each}
use Rattle.catalog.specs.declared.announcements.Announcement.{Announcement}
use Rattle.catalog.specs.declared.announcements.Announcements.{Announcements}
use Rattle.catalog.specs.declared.rows.Row.{Row}
use Rattle.catalog.specs.Table.{row, key_of, row_list, over, seen_in, put_row, dropped, released}

-- how many rows are in use, and four arrays of numbers, whatever is in them
pub record Table : Type 0 where
  pub count : ℕ
  pub arrays : Announcements

abbrev pub table : ℕ → Announcements → Table
table n a = record { count = n; arrays = a }

-- every row that there is room for, and those in use
abbrev pub all_rows : Table → List Row
all_rows t = row_list t.arrays

abbrev pub rows_in : Table → List Row
rows_in t = take t.count (all_rows t)

-- rows laid down in arrays
abbrev pub arrays_of : List Row → Announcements
arrays_of l = record { keys = each (λ r. r.key) l; tags = each (λ r. r.tag) l; identities = each (λ r. r.identity) l; columns = each (λ r. r.columns) l }

-- new rows in use: behind them it is as it was
abbrev pub laid : Table → List Row → Table
laid t l = table (length l) (arrays_of (over l (all_rows t)))

abbrev pub fresh_arrays : Announcements
fresh_arrays = record { keys = replicate 256 0; tags = replicate 256 0; identities = replicate 256 0; columns = replicate 256 0 }

unfoldable pub fresh_table : Table
fresh_table = table 0 fresh_arrays

-- a holder's announcement of an OID, which is a number of 32 bits
unfoldable pub lookup : Table → ℕ → ℕ → Option Announcement
lookup t holder oid = cond (leb 4294967296 oid) None (seen_in (key_of holder oid) (rows_in t))

-- how many announcements there are
unfoldable pub used_in : Table → ℕ
used_in t = length (rows_in t)

-- after a holder announced an OID, with a tag, an identity and a column count
unfoldable pub put_in : Table → ℕ → ℕ → ℕ → ℕ → ℕ → Table
put_in t holder oid g i c = laid t (put_row 256 (row (key_of holder oid) g i c) (rows_in t))

-- after a holder is gone
unfoldable pub drop_in : Table → ℕ → Table
drop_in t holder = laid t (dropped holder (rows_in t))

-- after a holder's announcements became common
unfoldable pub release_in : Table → ℕ → Table
release_in t holder = laid t (released 256 holder (rows_in t))
