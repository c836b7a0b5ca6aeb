use Rattle.std.proofs.Common.{sym, ◌∙◌}
use borrow.Author.Tests.{eq-eqb, ne_eqb}
use Rattle.session.proofs.Stores.{headed, tabled}
use Rattle.session.proofs.storing.apply_stream_abort.Goals as goal

pub returns-then-xid-sub : goal.returns-then-xid-sub
returns-then-xid-sub c = let h = c.args.head in let p = c.place_of-place in let f = c.flag_of-flagged in let n = c.drop_holder-rows in let e = c.head_at.ensures in
    let q = eq-eqb _ _ c.if-xid-sub.true in record {
      head = headed h _ p.result f.result n.result e p.ensures f.ensures;
      streams = c.close.ensures ∙ sym (rw q);
      table = tabled h _ p.result f.result n.result e _ _ (n.ensures ∙ sym (rw q));
    }

pub returns : goal.returns
returns c = let h = c.args.head in let p = c.place_of-place in let f = c.flag_of-flagged in let e = c.head_at-2.ensures in
    let q = ne_eqb _ _ c.if-xid-sub.false in record {
      head = headed h _ p.result f.result h.rows e p.ensures f.ensures;
      streams = sym (rw q);
      table = tabled h _ p.result f.result h.rows e _ _ (sym (rw q));
    }
