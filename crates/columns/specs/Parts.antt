-- To be believed (stepping). A part of a message: its bytes, and its place in memory.
use Rattle.std.specs.Prelude.{ℕ, ◌+◌, List, cond, ◌≡◌, leb, length}
use Rattle.std.specs.Borrow.{Bor}
use Rattle.wire.specs.declared.Span.{Span}
use Rattle.message.specs.Encode.{cut}

-- the empty span at the front
abbrev pub empty_span : Span
empty_span = record { start = 0; length = 0 }

-- a span that lies in these bytes; the empty one in the place of any other
unfoldable pub span_within : List ℕ → Span → Span
span_within xs s = cond (leb (s.start + s.length) (length xs)) s empty_span

abbrev pub part_of : List ℕ → Span → List ℕ
part_of xs s = cut xs (span_within xs s).start (span_within xs s).length

-- the very part of a message that a span is: its bytes, in the message's block of memory, and as far behind the message's front as the span says
pub record VeryPart (part message : Bor (List ℕ)) (span : Span) : Type 0 where
  pub bytes : part.now ≡ part_of message.now span
  pub block : part.ref_ptr.0 ≡ message.ref_ptr.0
  pub offset : part.ref_ptr.1 ≡ message.ref_ptr.1 + (span_within message.now span).start
