use Rattle.capi.proofs.flat.flatten.Goals as goal

pub returns-in-Begin : goal.returns-in-Begin
returns-in-Begin c = rw c.in-Begin.is c.flatten_begin.ensures

pub returns-in-Commit : goal.returns-in-Commit
returns-in-Commit c = rw c.in-Commit.is c.flatten_commit.ensures

pub returns-in-Origin : goal.returns-in-Origin
returns-in-Origin c = rw c.in-Origin.is c.flatten_origin.ensures

pub returns-in-Relation : goal.returns-in-Relation
returns-in-Relation c = rw c.in-Relation.is c.flatten_relation.ensures

pub returns-in-Type : goal.returns-in-Type
returns-in-Type c = rw c.in-Type.is c.flatten_type.ensures

pub returns-in-Insert : goal.returns-in-Insert
returns-in-Insert c = rw c.in-Insert.is c.flatten_insert.ensures

pub returns-in-Update : goal.returns-in-Update
returns-in-Update c = rw c.in-Update.is c.flatten_update.ensures

pub returns-in-Delete : goal.returns-in-Delete
returns-in-Delete c = rw c.in-Delete.is c.flatten_delete.ensures

pub returns-in-Truncate : goal.returns-in-Truncate
returns-in-Truncate c = rw c.in-Truncate.is c.flatten_truncate.ensures

pub returns-in-Message : goal.returns-in-Message
returns-in-Message c = rw c.in-Message.is c.flatten_logical_message.ensures

pub returns-in-StreamStart : goal.returns-in-StreamStart
returns-in-StreamStart c = rw c.in-StreamStart.is c.flatten_stream_start.ensures

pub returns-in-StreamStop : goal.returns-in-StreamStop
returns-in-StreamStop c = rw c.in-StreamStop.is c.flatten_stream_stop.ensures

pub returns-in-StreamCommit : goal.returns-in-StreamCommit
returns-in-StreamCommit c = rw c.in-StreamCommit.is c.flatten_stream_commit.ensures

pub returns-in-StreamAbort : goal.returns-in-StreamAbort
returns-in-StreamAbort c = rw c.in-StreamAbort.is c.flatten_stream_abort.ensures
