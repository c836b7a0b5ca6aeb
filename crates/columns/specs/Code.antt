-- For contracts only. What the code reads of one group of fields, with where reading stands after it.
use Rattle.std.specs.Prelude.{ℕ, List}
use Rattle.wire.specs.Cursors.{Cursor, Taken}
use Rattle.message.specs.Layout.{Field, read_group}

abbrev pub item_field : {A : Type 0} → List Field → (List ℕ → A) → List ℕ → Cursor → Taken A
item_field fs of xs c = let g = read_group fs xs c in record { value = of g.values; next = g.next }
