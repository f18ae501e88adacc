-- By which lemmas jobs, entries, shares, batches, answers and jobs that wait go to another thread. A reply holds replies, so the toolchain keeps no such
-- lemma of what holds one, and its own search ends too early: whoever sends something that holds a job searches this set, deeper.
use denote.Param.Send.{IsSend, IsSync, sendable}
use Rattle.std.proofs.Crossing.{crosses}
use Rattle.nr_blob.proofs.blob.Blob.TheSendSync as blob
use Rattle.nr_resp.proofs.reply.Reply.TheLaws.TheKnot as reply
use Rattle.nr_model.proofs.command.Look.TheSendSync as look
use Rattle.nr_model.proofs.command.Change.TheSendSync as change
use Rattle.nr_model.proofs.command.Operation.TheSendSync as operation
use Rattle.nr_entry.proofs.conn.ConnId.TheSendSync as conn
use Rattle.nr_entry.proofs.job.Transaction.TheSendSync as transaction
use Rattle.nr_entry.proofs.batch.Refusal.TheSendSync as refusal
use Rattle.nr_entry.specs.contracts.job.Job as Job
use Rattle.nr_entry.specs.contracts.job.JobKind as Kind
use Rattle.nr_entry.specs.contracts.job.Read as Read
use Rattle.nr_entry.specs.contracts.job.Update as Update
use Rattle.nr_entry.specs.contracts.run.Run as Run
use Rattle.nr_entry.specs.contracts.waiting.Waiting as Waiting
use Rattle.nr_model.specs.contracts.command.Change as Change

pub ruleset parts = (blob.the_send, blob.the_sync, reply.send-Reply, reply.sync-Reply, look.the_send, look.the_sync, change.the_send, change.the_sync, operation.the_send, operation.the_sync, conn.the_send, conn.the_sync, transaction.the_send, transaction.the_sync, refusal.the_send, refusal.the_sync, sendable, crosses)

pub change_sent : IsSend (Change.the_field).row
change_sent = search parts depth 60 fits 100000

pub change_shared : IsSync (Change.the_field).row
change_shared = search parts depth 60 fits 100000

pub ruleset changes = (parts, change_sent, change_shared)

pub update_sent : IsSend (Update.the_field).row
update_sent = search changes depth 60 fits 100000

pub update_shared : IsSync (Update.the_field).row
update_shared = search changes depth 60 fits 100000

pub read_sent : IsSend (Read.the_field).row
read_sent = search parts depth 60 fits 100000

pub read_shared : IsSync (Read.the_field).row
read_shared = search parts depth 60 fits 100000

pub ruleset kinds = (parts, update_sent, update_shared, read_sent, read_shared)

pub kind_sent : IsSend (Kind.the_field).row
kind_sent = search kinds depth 60 fits 100000

pub kind_shared : IsSync (Kind.the_field).row
kind_shared = search kinds depth 60 fits 100000

pub ruleset jobs = (parts, kind_sent, kind_shared)

pub job_sent : IsSend (Job.the_field).row
job_sent = search jobs depth 60 fits 100000

pub job_shared : IsSync (Job.the_field).row
job_shared = search jobs depth 60 fits 100000

pub ruleset sent = (parts, job_sent, job_shared)

run_sent : IsSend (Run.the_field).row
run_sent = search jobs depth 60 fits 100000

pub waiting_sent : IsSend Waiting.the_row
waiting_sent = search (sent, run_sent) depth 60 fits 100000
