-- For contracts only. THE OPEN STREAMED TRANSACTIONS as everything above knows them: by these names, which are shut, and by the laws of `proofs/Opens.antt`.
use Rattle.std.specs.Prelude.{ℕ, ◌-◌, List, Bool, false, not, ◌&&◌, eqb, replicate}
use Rattle.wire.specs.Lists.{any, tally, each, first_of, replace_first, change}
use Rattle.catalog.specs.declared.streams.Streams.{Streams}
use Rattle.catalog.specs.Table.{Stream, streams_of, xid_is, changed_of, free_stream, new_stream, marked}

-- two arrays of numbers, whatever is in them
abbrev pub streams : List ℕ → List ℕ → Streams
streams x m = record { xids = x; marks = m }

abbrev pub places_in : Streams → List Stream
places_in s = streams_of s.xids s.marks

abbrev pub placed : List Stream → Streams
placed l = streams (each (λ r. r.xid) l) (each (λ r. r.changed) l)

unfoldable pub fresh_streams : Streams
fresh_streams = streams (replicate 16 0) (replicate 16 0)

-- whether x is open: 0 is no xid
unfoldable pub is_open_in : Streams → ℕ → Bool
is_open_in s x = not (eqb x 0) && any (xid_is x) (places_in s)

-- how many are open: the places of 16 that are not free
unfoldable pub open_count_in : Streams → ℕ
open_count_in s = 16 - tally (xid_is 0) (places_in s)

-- whether x had a change since it opened
unfoldable pub changed_in : Streams → ℕ → Bool
changed_in s x = first_of changed_of false (xid_is x) (places_in s)

-- after x was opened, was closed, had a change
unfoldable pub open_in : Streams → ℕ → Streams
open_in s x = placed (replace_first (xid_is 0) (new_stream x) (places_in s))

unfoldable pub close_in : Streams → ℕ → Streams
close_in s x = placed (replace_first (xid_is x) free_stream (places_in s))

unfoldable pub mark_in : Streams → ℕ → Streams
mark_in s x = placed (change (marked x) (places_in s))
