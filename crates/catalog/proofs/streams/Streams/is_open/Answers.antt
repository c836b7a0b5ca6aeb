use Rattle.std.proofs.Common.{sym, ◌∙◌}
use Rattle.catalog.proofs.StreamLaws.{any_found}
use Rattle.catalog.proofs.Opens.{no_xid, open_any}
use Rattle.catalog.proofs.streams.Streams.is_open.Goals as goal

pub returns-then-x-ne0 : goal.returns-then-x-ne0
returns-then-x-ne0 c = let a = c.args in c.is_some.ensures ∙ any_found a.self.now a.x _ c.find.ensures ∙ sym (open_any a.self.now a.x c.if-x-ne0.true)

pub returns-else-x-ne0 : goal.returns-else-x-ne0
returns-else-x-ne0 c = rw c.if-x-ne0.false (no_xid c.args.self.now)
