use mathlib.Core.Path.{refl, ◌∙◌, ap}
use Rattle.std.specs.Prelude.{Option}
use Rattle.catalog.specs.declared.announcements.Announcement.{Announcement}
use Rattle.catalog.specs.Tables.{table}
use Rattle.session.specs.Rules.{shaped}
use Rattle.session.specs.State.{announced_by}
use Rattle.session.specs.Acts.{tuples_of}
use Rattle.session.proofs.Stores.{change-judged}
use Rattle.session.proofs.judging.judge_change.Goals as goal

pub returns-in-Idle : goal.returns-in-Idle
returns-in-Idle c = let a = c.args in change-judged a.head (table a.head.rows a.announcements.now) a.oid (tuples_of a.t) _ _ c.place_of-place.ensures c.in-Idle.is _ refl

pub returns-in-Transaction : goal.returns-in-Transaction
returns-in-Transaction c = let a = c.args in change-judged a.head (table a.head.rows a.announcements.now) a.oid (tuples_of a.t) _ _ c.place_of-place.ensures c.in-Transaction.is _ (c.rule_shape.ensures ∙ ap (λ (l : Option Announcement). shaped (announced_by l) (tuples_of a.t)) c.find-seen.ensures)

pub returns-in-Block : goal.returns-in-Block
returns-in-Block c = let a = c.args in change-judged a.head (table a.head.rows a.announcements.now) a.oid (tuples_of a.t) _ _ c.place_of-place.ensures c.in-Block.is _ (c.rule_shape-in-Block.ensures ∙ rw (c.visible-seen.ensures, c.in-Block.is))
