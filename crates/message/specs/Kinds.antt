-- To be believed (demand 1). The kinds of messages: their letters, the first version that has each, and the fields after the letter
-- (document 01, "Layouts": a line for each row of its table, in its order).
use Rattle.std.specs.Prelude.{ℕ, suc, List, [], ◌∷◌, Option, Some, None, cond, eqb}
use Rattle.wire.specs.Numbers.{most32, most64}
pub use Rattle.message.specs.declared.kinds.Kind.{Kind}
use Rattle.message.specs.declared.kinds.Kind.TheVariants as k
use Rattle.message.specs.Layout.{Field, Part, one, block_xid, groups, tuple, optional_tuple, number, constant, letter, text, value, id, most_columns}

pattern abbrev pub begin : Kind
begin = k.Begin

pattern abbrev pub commit : Kind
commit = k.Commit

pattern abbrev pub origin : Kind
origin = k.Origin

pattern abbrev pub relation : Kind
relation = k.Relation

pattern abbrev pub type : Kind
type = k.«Type»

pattern abbrev pub insert : Kind
insert = k.Insert

pattern abbrev pub update : Kind
update = k.Update

pattern abbrev pub delete : Kind
delete = k.Delete

pattern abbrev pub truncate : Kind
truncate = k.Truncate

pattern abbrev pub message : Kind
message = k.Message

pattern abbrev pub stream_start : Kind
stream_start = k.StreamStart

pattern abbrev pub stream_stop : Kind
stream_stop = k.StreamStop

pattern abbrev pub stream_commit : Kind
stream_commit = k.StreamCommit

pattern abbrev pub stream_abort : Kind
stream_abort = k.StreamAbort

-- in the order of the table
abbrev pub all_kinds : List Kind
all_kinds = begin ∷ commit ∷ origin ∷ relation ∷ type ∷ insert ∷ update ∷ delete ∷ truncate ∷ message ∷ stream_start ∷ stream_stop ∷ stream_commit ∷ stream_abort ∷ []

abbrev pub letter_of : Kind → ℕ
letter_of begin = 0x42  -- B
letter_of commit = 0x43  -- C
letter_of origin = 0x4F  -- O
letter_of relation = 0x52  -- R
letter_of type = 0x59  -- Y
letter_of insert = 0x49  -- I
letter_of update = 0x55  -- U
letter_of delete = 0x44  -- D
letter_of truncate = 0x54  -- T
letter_of message = 0x4D  -- M
letter_of stream_start = 0x53  -- S
letter_of stream_stop = 0x45  -- E
letter_of stream_commit = 0x63  -- c
letter_of stream_abort = 0x41  -- A

-- S, E, c and A exist from version 2
abbrev pub first_version : Kind → ℕ
first_version begin = 1
first_version commit = 1
first_version origin = 1
first_version relation = 1
first_version type = 1
first_version insert = 1
first_version update = 1
first_version delete = 1
first_version truncate = 1
first_version message = 1
first_version stream_start = 2
first_version stream_stop = 2
first_version stream_commit = 2
first_version stream_abort = 2

-- THE FIELDS OF THE TABLE

abbrev pub lsn : Part
lsn = one (number 8 0 most64)

-- microseconds since 2000-01-01, signed: its 64 bits
abbrev pub time : Part
time = one (number 8 0 most64)

abbrev pub xid : Part
xid = one id

abbrev pub relation_oid : Part
relation_oid = one id

-- free: 0 too
abbrev pub any32 : Field
any32 = number 4 0 most32

abbrev pub type_oid : Part
type_oid = one any32

-- a byte from 0 to `high`
abbrev pub up_to : ℕ → Field
up_to high = number 1 0 high

abbrev pub flags : ℕ → Part
flags high = one (up_to high)

-- d, n, f or i
abbrev pub identity : Part
identity = one (letter (0x64 ∷ 0x6E ∷ 0x66 ∷ 0x69 ∷ []))

-- flags, name, type OID, type modifier
abbrev pub column_fields : List Field
column_fields = up_to 1 ∷ text ∷ any32 ∷ any32 ∷ []

abbrev pub columns : Part
columns = groups 2 0 most_columns [] column_fields

-- N
abbrev pub new : Part
new = one (constant 0x4E)

-- K or O
abbrev pub key_or_old : List ℕ
key_or_old = 0x4B ∷ 0x4F ∷ []

-- how many, the options, the OIDs
abbrev pub relations : Part
relations = groups 4 1 256 (up_to 3 ∷ []) (id ∷ [])

-- THE TABLE

-- Update: the byte after the OID is K, O or N, and after an old tuple N: `optional_tuple` stays where neither K nor O stands
abbrev pub layout : Kind → List Part
layout begin = lsn ∷ time ∷ xid ∷ []
layout commit = flags 0 ∷ lsn ∷ lsn ∷ time ∷ []
layout origin = lsn ∷ one text ∷ []
layout relation = block_xid ∷ relation_oid ∷ one text ∷ one text ∷ identity ∷ columns ∷ []
layout type = block_xid ∷ type_oid ∷ one text ∷ one text ∷ []
layout insert = block_xid ∷ relation_oid ∷ new ∷ tuple ∷ []
layout update = block_xid ∷ relation_oid ∷ optional_tuple key_or_old ∷ new ∷ tuple ∷ []
layout delete = block_xid ∷ relation_oid ∷ one (letter key_or_old) ∷ tuple ∷ []
layout truncate = block_xid ∷ relations ∷ []
layout message = block_xid ∷ flags 1 ∷ lsn ∷ one text ∷ one value ∷ []
layout stream_start = xid ∷ flags 1 ∷ []
layout stream_stop = []
layout stream_commit = xid ∷ flags 0 ∷ lsn ∷ lsn ∷ time ∷ []
layout stream_abort = xid ∷ xid ∷ []

-- THE KIND OF A FIRST BYTE

unfoldable pub kind_among : List Kind → ℕ → Option Kind
kind_among [] l = None
kind_among (k ∷ ks) l = cond (eqb l (letter_of k)) (Some k) (kind_among ks l)

-- the kind whose letter a byte is
abbrev pub kind_of : ℕ → Option Kind
kind_of l = kind_among all_kinds l

-- a kind's number is its place in the table, from 1 on; 0 is no kind
abbrev pub kind_number : Option Kind → ℕ
kind_number None = 0
kind_number (Some begin) = 1
kind_number (Some commit) = 2
kind_number (Some origin) = 3
kind_number (Some relation) = 4
kind_number (Some type) = 5
kind_number (Some insert) = 6
kind_number (Some update) = 7
kind_number (Some delete) = 8
kind_number (Some truncate) = 9
kind_number (Some message) = 10
kind_number (Some stream_start) = 11
kind_number (Some stream_stop) = 12
kind_number (Some stream_commit) = 13
kind_number (Some stream_abort) = 14

unfoldable pub numbered : List Kind → ℕ → ℕ → Option Kind
numbered [] i n = None
numbered (k ∷ ks) i n = cond (eqb n i) (Some k) (numbered ks (suc i) n)

-- the kind that has a number
abbrev pub kind_numbered : ℕ → Option Kind
kind_numbered n = numbered all_kinds 1 n
