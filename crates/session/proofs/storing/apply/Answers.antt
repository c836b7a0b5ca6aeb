use mathlib.Core.Path.{refl}
use Rattle.session.specs.Machine.{place_in, flag_in, parts}
use Rattle.session.proofs.Stores.{applied}
use Rattle.session.proofs.storing.apply.Goals as goal

pub returns-in-Begin : goal.returns-in-Begin
returns-in-Begin c = let a = c.args in λ xs. applied (parts a.head a.streams.now a.announcements.now) xs _ _ c.in-Begin.is _ _ c.place_of-place.ensures c.flag_of-flagged.ensures a.tag _ _ _ _ c.head_at.ensures refl refl

pub returns-in-Commit : goal.returns-in-Commit
returns-in-Commit c = let a = c.args in λ xs. applied (parts a.head a.streams.now a.announcements.now) xs _ _ c.in-Commit.is _ _ c.place_of-place.ensures c.flag_of-flagged.ensures a.tag _ _ _ _ c.head_at-in-Commit.ensures refl refl

pub returns-in-Origin : goal.returns-in-Origin
returns-in-Origin c = let a = c.args in λ xs. applied (parts a.head a.streams.now a.announcements.now) xs _ _ c.in-Origin.is _ _ c.place_of-place.ensures c.flag_of-flagged.ensures a.tag _ _ _ _ c.head_at-in-Origin.ensures refl refl

pub returns-in-Relation : goal.returns-in-Relation
returns-in-Relation c = let a = c.args in λ xs. applied (parts a.head a.streams.now a.announcements.now) xs _ _ c.in-Relation.is (place_in a.head) (flag_in a.head) refl refl a.tag _ _ _ _ c.apply_relation.ensures.head refl c.apply_relation.ensures.table

pub returns-in-Truncate : goal.returns-in-Truncate
returns-in-Truncate c = let a = c.args in λ xs. applied (parts a.head a.streams.now a.announcements.now) xs _ _ c.in-Truncate.is (place_in a.head) (flag_in a.head) refl refl a.tag _ _ _ _ c.apply_truncate.ensures.head c.apply_truncate.ensures.streams refl

pub returns-in-Neutral : goal.returns-in-Neutral
returns-in-Neutral c = let a = c.args in λ xs. applied (parts a.head a.streams.now a.announcements.now) xs _ _ c.in-Neutral.is _ _ c.place_of-place.ensures c.flag_of-flagged.ensures a.tag _ _ _ _ c.head_at-in-Neutral.ensures refl refl

pub returns-in-Transactional : goal.returns-in-Transactional
returns-in-Transactional c = let a = c.args in λ xs. applied (parts a.head a.streams.now a.announcements.now) xs _ _ c.in-Transactional.is _ _ c.place_of-place.ensures c.flag_of-flagged.ensures a.tag _ _ _ _ c.head_at-in-Transactional.ensures refl refl

pub returns-in-Marker : goal.returns-in-Marker
returns-in-Marker c = let a = c.args in λ xs. applied (parts a.head a.streams.now a.announcements.now) xs _ _ c.in-Marker.is _ _ c.place_of-place.ensures c.flag_of-flagged.ensures a.tag _ _ _ _ c.head_at-in-Marker.ensures refl refl

pub returns-in-StreamStart : goal.returns-in-StreamStart
returns-in-StreamStart c = let a = c.args in λ xs. applied (parts a.head a.streams.now a.announcements.now) xs _ _ c.in-StreamStart.is (place_in a.head) (flag_in a.head) refl refl a.tag _ _ _ _ c.apply_stream_start.ensures.head c.apply_stream_start.ensures.streams refl

pub returns-in-StreamStop : goal.returns-in-StreamStop
returns-in-StreamStop c = let a = c.args in λ xs. applied (parts a.head a.streams.now a.announcements.now) xs _ _ c.in-StreamStop.is _ _ c.place_of-place.ensures c.flag_of-flagged.ensures a.tag _ _ _ _ c.head_at-in-StreamStop.ensures refl refl

pub returns-in-StreamCommit : goal.returns-in-StreamCommit
returns-in-StreamCommit c = let a = c.args in λ xs. applied (parts a.head a.streams.now a.announcements.now) xs _ _ c.in-StreamCommit.is (place_in a.head) (flag_in a.head) refl refl a.tag _ _ _ _ c.apply_stream_commit.ensures.head c.apply_stream_commit.ensures.streams c.apply_stream_commit.ensures.table

pub returns-in-StreamAbort : goal.returns-in-StreamAbort
returns-in-StreamAbort c = let a = c.args in λ xs. applied (parts a.head a.streams.now a.announcements.now) xs _ _ c.in-StreamAbort.is (place_in a.head) (flag_in a.head) refl refl a.tag _ _ _ _ c.apply_stream_abort.ensures.head c.apply_stream_abort.ensures.streams c.apply_stream_abort.ensures.table
