use Rattle.std.proofs.Common.{◌∙◌}
use Rattle.session.proofs.Stores.{headed, tabled}
use Rattle.session.proofs.storing.apply_relation.Goals as goal

pub returns : goal.returns
returns c = let h = c.args.head in let p = c.place_of-place in let f = c.flag_of in let n = c.put-rows in let e = c.head_at.ensures in record {
  head = headed h _ p.result f.result n.result e p.ensures f.ensures;
  table = tabled h _ p.result f.result n.result e _ _ (n.ensures ∙ rw (c.holder_at-t.ensures, p.ensures));
}
