use Rattle.std.proofs.Common.{rules, arith, reverse}
use Rattle.std.proofs.lemmas.Iterator.Adapters.{YieldsList-from_rev_slice}
use Rattle.std.proofs.lemmas.Iterator.Consumers.{nth_from_yields_List}
use Rattle.std.proofs.lemmas.Option.{unwrap_or-slice_get}
use Rattle.second_reader.specs.Listed.{listed}
use Rattle.second_reader.proofs.seen.Values.earlier.Goals as goal

pub returns : goal.returns
returns c =
    let values = reverse (listed c.args.self.now) in
    let chain = YieldsList-from_rev_slice {s = c.rev.result} (listed c.args.self.now) (search rules) in
    let found = nth_from_yields_List c.nth.result c.nth.new.self _ c.nth.ensures.ran chain in
    grind (arith, found, unwrap_or-slice_get values c.args.back 0)
