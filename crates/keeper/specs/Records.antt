-- For contracts only. Bytes of a buffer in pieces: whole records from the front, and what is none, which is one piece to the end and nobody's.
use Rattle.std.specs.Prelude.{ℕ, zero, suc, ◌+◌, List, [], ◌++◌, Bool, true, false, cond, not, ◌&&◌, eqb, leb, length, take, drop, Option, Some, None, Ok}
use Rattle.wire.specs.Numbers.{most16, most32}
use Rattle.wire.specs.Fields.{number_field}
use Rattle.keeper.specs.declared.Header.{Header}
use Rattle.keeper.specs.declared.Xids.{Xids}
use Rattle.keeper.specs.Rules.{laid}

-- a piece: its size, and a record's two xids
abbrev pub header : ℕ → Option Xids → Header
header size xids = record { size = size; xids = xids }

abbrev pub xids_of : ℕ → ℕ → Option Xids
xids_of top own = Some (record { top = top; own = own })

-- the number of 32 bits at a place
abbrev pub word : List ℕ → ℕ → ℕ
word xs at = (number_field 4 0 most32 4 xs (Ok at)).value

abbrev pub mark_of : List ℕ → ℕ
mark_of xs = (number_field 2 0 most16 4 xs (Ok 0)).value

-- the piece at the start of bytes
unfoldable pub header_of : List ℕ → Header
header_of xs =
    cond (leb 14 (length xs) && (eqb (mark_of xs) 0xC34D && leb (14 + word xs 10) (length xs)))
    (header (14 + word xs 10) (xids_of (word xs 2) (word xs 6)))
    (header (length xs) None)

abbrev pub passed : (Header → Bool) → Header → List ℕ → List ℕ
passed p r xs = cond (p r) (take r.size xs) []

-- of n pieces, those that pass, one after the other
abbrev pub picked : (Header → Bool) → ℕ → List ℕ → List ℕ
picked p zero xs = []
picked p (suc n) xs = let r = header_of xs in passed p r xs ++ picked p n (drop r.size xs)

-- of all: there are no more pieces than bytes
unfoldable pub pieces_in : (Header → Bool) → List ℕ → List ℕ
pieces_in p xs = picked p (length xs) xs

-- a record of transaction x: any, or one under exactly the xid that is named
abbrev pub is_named : Option ℕ → ℕ → Bool
is_named None own = true
is_named (Some sub) own = eqb own sub

abbrev pub has_xids : ℕ → Option ℕ → Option Xids → Bool
has_xids x under None = false
has_xids x under (Some r) = is_named under r.own && eqb r.top x

abbrev pub chosen : ℕ → Option ℕ → Header → Bool
chosen x under r = has_xids x under r.xids

-- A BUFFER, and how many of its bytes are held
pub record Hold : Type 0 where
  pub buffer : List ℕ
  pub held : ℕ

abbrev pub hold : List ℕ → ℕ → Hold
hold buffer held = record { buffer = buffer; held = held }

-- the chosen records of what is held, and the buffer without them: the other pieces, packed; what lies behind them is as it was
abbrev pub taken : ℕ → Option ℕ → Hold → List ℕ
taken x under b = pieces_in (chosen x under) (take b.held b.buffer)

abbrev pub removed : ℕ → Option ℕ → Hold → Hold
removed x under b = let rs = pieces_in (λ r. not (chosen x under r)) (take b.held b.buffer) in hold (laid rs b.buffer) (length rs)
