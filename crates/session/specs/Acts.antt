-- For contracts only. What the session's code hands on: what is heard, with a Change's tuples as numbers and a Truncate's OIDs by where they start.
use Rattle.std.specs.Prelude.{ℕ, ◌%◌, List, [], ◌∷◌, true, false, cond, eqb, Result, Ok, Err}
use Rattle.wire.specs.declared.Refusal.{Refusal}
use Rattle.session.specs.declared.Tuples.{Tuples}
use Rattle.session.specs.declared.Act.{Act}
use Rattle.session.specs.declared.Act.TheVariants as act
use Rattle.session.specs.declared.Looked.{Looked}
use Rattle.session.specs.declared.Looked.TheVariants as looked
use Rattle.session.specs.Rules.{Heard, unread, heard}
use Rattle.session.specs.Events.{Event, Begin, Commit, Origin, Relation, Change, Truncate, Neutral, Logical, StreamStart, StreamStop, StreamCommit, StreamAbort, Tuple, tuple, oids_at}

-- an old tuple whose letter is 0 is none
abbrev pub tuples_of : Tuples → List Tuple
tuples_of t = cond (eqb t.old 0) (tuple t.letter t.count ∷ []) (tuple t.old t.old_count ∷ tuple t.letter t.count ∷ [])

abbrev pub event_in : Act → List ℕ → Event
event_in (act.Begin lsn x) xs = Begin lsn x
event_in (act.Commit lsn) xs = Commit lsn
event_in act.Origin xs = Origin
event_in (act.Relation o s) xs = Relation o (s.identity % 256) (s.columns % 65536)
event_in (act.Truncate count start x) xs = Truncate x (oids_at count xs (Ok start))
event_in act.Neutral xs = Neutral
event_in act.Transactional xs = Logical true
event_in act.Marker xs = Logical false
event_in (act.StreamStart x first) xs = StreamStart x (eqb first 1)
event_in act.StreamStop xs = StreamStop
event_in (act.StreamCommit x) xs = StreamCommit x
event_in (act.StreamAbort x sub) xs = StreamAbort x sub

abbrev pub event_looked : Looked → List ℕ → Event
event_looked (looked.Change o x ts) xs = Change x o (tuples_of ts)
event_looked (looked.Other a) xs = event_in a xs

abbrev pub heard_in : Result Looked Refusal → List ℕ → Heard
heard_in (Err r) xs = unread r.number r.offset
heard_in (Ok l) xs = heard (event_looked l xs)
