use mathlib.Core.Path.{refl}
use Rattle.session.specs.Machine.{place_in, flag_in, parts}
use Rattle.session.proofs.Stores.{judged}
use Rattle.session.proofs.judging.judge.Goals as goal

pub returns-in-Begin : goal.returns-in-Begin
returns-in-Begin c = let a = c.args in judged (parts a.head a.streams.now a.announcements.now) a.bytes.now _ _ c.in-Begin.is _ (flag_in a.head) c.place_of-p.ensures refl _ c.judge_begin.ensures

pub returns-in-Commit : goal.returns-in-Commit
returns-in-Commit c = let a = c.args in judged (parts a.head a.streams.now a.announcements.now) a.bytes.now _ _ c.in-Commit.is _ (flag_in a.head) c.place_of-p.ensures refl _ c.rule_commit.ensures

pub returns-in-Origin : goal.returns-in-Origin
returns-in-Origin c = let a = c.args in judged (parts a.head a.streams.now a.announcements.now) a.bytes.now _ _ c.in-Origin.is _ _ c.place_of-p.ensures c.flag_of.ensures _ c.judge_origin.ensures

pub returns-in-Relation : goal.returns-in-Relation
returns-in-Relation c = let a = c.args in judged (parts a.head a.streams.now a.announcements.now) a.bytes.now _ _ c.in-Relation.is _ (flag_in a.head) c.place_of-p.ensures refl _ c.judge_relation.ensures

pub returns-in-Truncate : goal.returns-in-Truncate
returns-in-Truncate c = let a = c.args in judged (parts a.head a.streams.now a.announcements.now) a.bytes.now _ _ c.in-Truncate.is (place_in a.head) (flag_in a.head) refl refl _ c.judge_truncate.ensures

pub returns-in-Neutral : goal.returns-in-Neutral
returns-in-Neutral c = let a = c.args in judged (parts a.head a.streams.now a.announcements.now) a.bytes.now _ _ c.in-Neutral.is _ (flag_in a.head) c.place_of-p.ensures refl _ c.rule_neutral.ensures

pub returns-in-Transactional : goal.returns-in-Transactional
returns-in-Transactional c = let a = c.args in judged (parts a.head a.streams.now a.announcements.now) a.bytes.now _ _ c.in-Transactional.is _ (flag_in a.head) c.place_of-p.ensures refl _ c.rule_logical.ensures

pub returns-in-Marker : goal.returns-in-Marker
returns-in-Marker c = let a = c.args in judged (parts a.head a.streams.now a.announcements.now) a.bytes.now _ _ c.in-Marker.is _ (flag_in a.head) c.place_of-p.ensures refl _ c.rule_logical-in-Marker.ensures

pub returns-in-StreamStart : goal.returns-in-StreamStart
returns-in-StreamStart c = let a = c.args in judged (parts a.head a.streams.now a.announcements.now) a.bytes.now _ _ c.in-StreamStart.is _ (flag_in a.head) c.place_of-p.ensures refl _ c.judge_stream_start.ensures

pub returns-in-StreamStop : goal.returns-in-StreamStop
returns-in-StreamStop c = let a = c.args in judged (parts a.head a.streams.now a.announcements.now) a.bytes.now _ _ c.in-StreamStop.is _ (flag_in a.head) c.place_of-p.ensures refl _ c.rule_stream_stop.ensures

pub returns-in-StreamCommit : goal.returns-in-StreamCommit
returns-in-StreamCommit c = let a = c.args in judged (parts a.head a.streams.now a.announcements.now) a.bytes.now _ _ c.in-StreamCommit.is _ (flag_in a.head) c.place_of-p.ensures refl _ c.judge_stream_end.ensures

pub returns-in-StreamAbort : goal.returns-in-StreamAbort
returns-in-StreamAbort c = let a = c.args in judged (parts a.head a.streams.now a.announcements.now) a.bytes.now _ _ c.in-StreamAbort.is _ (flag_in a.head) c.place_of-p.ensures refl _ c.judge_stream_end-in-StreamAbort.ensures
