use Rattle.std.proofs.Common.{◌≡◌, ◌-◌}
use Rattle.std.specs.Prelude.{Ok}
use Rattle.catalog.specs.Tables.{table}
use Rattle.session.specs.Events.{oids_at}
use Rattle.session.specs.Rules.{all_seen}
use Rattle.session.specs.State.{visible_in}
use Rattle.session.proofs.judging.all_visible.Given as goal

abbrev pub invariant-loop-i : goal.invariant-loop-i
invariant-loop-i l = let see = visible_in l.place (table l.rows l.announcements) in
    (l.r.bytes ≡ l.initial.r.bytes) × (all_seen see (oids_at (l.count - l._i) l.bytes l.r.next) ≡ all_seen see (oids_at l.count l.bytes (Ok l.start)))
