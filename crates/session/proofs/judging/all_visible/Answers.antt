use Rattle.std.proofs.Common.{not, refl, ap, ◌∙◌, arith}
use Rattle.catalog.specs.Tables.{table}
use Rattle.session.specs.State.{visible_in}
use Rattle.session.proofs.Oids.{seen_start, seen_done, seen_turn, seen_miss}
use Rattle.session.proofs.Visible.{found_announced}
use Rattle.session.proofs.judging.all_visible.Goals as goal

pub loop-i-init : goal.loop-i-init
loop-i-init c = let a = c.args in (refl, seen_start (visible_in a.place (table a.rows a.announcements.now)) _ _ a.count refl)

pub returns-then-is_none : goal.returns-then-is_none
returns-then-is_none c = let a = c.args in
    let o = rw c.loop-i.invariant.0 at c.next_oid-oid.ensures in
    seen_miss (visible_in a.place (table a.rows a.announcements.now)) _ _ _ refl _ (rw o.0 at c.visible.ensures) _ (found_announced c.visible.result) a.count c.loop-i._i (omega arith)
    (c.is_none.ensures ∙ ap not c.if-is_none.true) c.loop-i.invariant.1

pub loop-i-preserved : goal.loop-i-preserved
loop-i-preserved c = let a = c.args in
    let o = rw c.loop-i.invariant.0 at c.next_oid-oid.ensures in
    rw o.1 (
      refl,
      seen_turn (visible_in a.place (table a.rows a.announcements.now)) _ _ _ refl _ (rw o.0 at c.visible.ensures) _ (found_announced c.visible.result) a.count c.loop-i._i (omega arith)
          (c.is_none.ensures ∙ ap not c.if-is_none.false) c.loop-i.invariant.1,
    )

pub returns : goal.returns
returns c = let a = c.args in seen_done (visible_in a.place (table a.rows a.announcements.now)) _ _ a.count c.loop-i._i (omega arith) c.loop-i.invariant.1
