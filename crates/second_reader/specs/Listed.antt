-- For contracts only. The numbers that a message's values are, and the places behind them
use Rattle.std.specs.Prelude.{ℕ, List, take, drop}
use Rattle.second_reader.specs.declared.seen.Values.{Values}

-- the numbers, in their order
abbrev pub listed : Values → List ℕ
listed v = take v.count v.numbers

-- what stands in the places that no number has yet
abbrev pub unused : Values → List ℕ
unused v = drop v.count v.numbers
