use Rattle.std.proofs.Common.{rules}
use Rattle.capi.proofs.rows.write_row.Goals as goal

pub returns-in-Begin : goal.returns-in-Begin
returns-in-Begin c = let w = c.write_begin.ensures c.args.source.now in search rules

pub returns-in-Commit : goal.returns-in-Commit
returns-in-Commit c = let w = c.write_commit.ensures c.args.source.now in search rules

pub returns-in-StreamStart : goal.returns-in-StreamStart
returns-in-StreamStart c = let w = c.write_stream_start.ensures c.args.source.now in search rules

pub returns-in-StreamStop : goal.returns-in-StreamStop
returns-in-StreamStop c = let w = c.write_stream_stop.ensures c.args.source.now in search rules

pub returns-in-StreamCommit : goal.returns-in-StreamCommit
returns-in-StreamCommit c = let w = c.write_stream_commit.ensures c.args.source.now in search rules

pub returns-in-StreamAbort : goal.returns-in-StreamAbort
returns-in-StreamAbort c = let w = c.write_stream_abort.ensures c.args.source.now in search rules
