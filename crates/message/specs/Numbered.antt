-- For contracts only. The kind that a number stands for, as a conversion gives it.
use Rattle.std.specs.Prelude.{◌≡◌, ℕ, Option, Some, None, Result, Ok, Err}
use Rattle.message.specs.declared.kinds.Kind.{Kind}
use Rattle.message.specs.declared.kinds.UnknownKind.{UnknownKind}
use Rattle.message.specs.Kinds.{kind_numbered}

abbrev pub numbered_or : ℕ → Option Kind → Result Kind UnknownKind
numbered_or n (Some k) = Ok k
numbered_or n None = Err (record { 0 = n })

-- the kind with this number, or the number, which no kind has
abbrev pub Numbers : ℕ → Result Kind UnknownKind → Type 0
Numbers n r = r ≡ numbered_or n (kind_numbered n)
