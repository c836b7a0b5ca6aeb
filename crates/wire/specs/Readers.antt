-- For contracts only. What a field makes of a reader, and what the reader gives.
use Rattle.std.specs.Prelude.{ℕ, ◌≡◌, Result, Ok, Err}
use Rattle.wire.specs.declared.Refusal.{Refusal}
use Rattle.wire.specs.declared.reader.Reader.{Reader}
use Rattle.wire.specs.Cursors.{Cursor, Taken, refuse}

abbrev pub given_at : {A : Type 0} → A → Cursor → Result A Refusal
given_at v (Ok at) = Ok v
given_at v (Err r) = Err r

-- what a field holds, or why it was refused
abbrev pub given : {A : Type 0} → Taken A → Result A Refusal
given f = given_at f.value f.next

-- a reader of the same bytes that stands elsewhere
abbrev pub stands : Reader → Cursor → Reader
stands r c = record { bytes = r.bytes; next = c }

-- a field is read: its value or its refusal is given, and the reader stands behind it or has refused
pub record Reads {A : Type 0} (f : Taken A) (before : Reader) (result : Result A Refusal) (after : Reader) : Type 0 where
  pub value : result ≡ given f
  pub stands_at : after ≡ stands before f.next

-- nothing is read: refusal n at an offset
abbrev pub refuses : {A : Type 0} → ℕ → ℕ → Reader → Result A Refusal → Reader → Type 0
refuses n offset before result after = (result ≡ refuse n offset) × (after ≡ stands before (refuse n offset))
