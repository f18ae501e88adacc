-- What a job asks for, as a deed of the definitions.
use Rattle.std.specs.Prelude.{Some, None, map}
use Rattle.nr_model.specs.declared.command.Command.{Command}
use Rattle.nr_model.specs.declared.command.Command.TheVariants as commands
use Rattle.nr_model.specs.declared.command.Operation.TheVariants as operations
use Rattle.nr_model.specs.declared.command.Session.TheVariants as sessions
use Rattle.nr_model.specs.Items.{Call, Deed, Say, Act, Run, Abort, End}
use Rattle.nr_resp.specs.Seen.{reply_of}
use Rattle.nr_resp.specs.Check.{call}
use Rattle.nr_entry.specs.declared.job.JobKind.{JobKind}
use Rattle.nr_entry.specs.declared.job.JobKind.TheVariants as kinds
use Rattle.nr_entry.specs.declared.job.Queueable.{Queueable}
use Rattle.nr_entry.specs.declared.job.Queueable.TheVariants as queueable
use Rattle.nr_entry.specs.declared.job.Queued.{Queued}
use Rattle.nr_entry.specs.declared.job.SessionUpdate.{SessionUpdate}
use Rattle.nr_entry.specs.declared.job.SessionUpdate.TheVariants as session_updates
use Rattle.nr_entry.specs.declared.job.Update.{Update}
use Rattle.nr_entry.specs.declared.job.Update.TheVariants as updates
use Rattle.nr_entry.specs.declared.job.Read.{Read}
use Rattle.nr_entry.specs.declared.job.Read.TheVariants as reads
use Rattle.nr_entry.specs.declared.job.Transaction.{Transaction}
use Rattle.nr_entry.specs.declared.job.Transaction.TheVariants as transactions

-- the command of the table
abbrev pub queued_command : Queueable → Command
queued_command (queueable.Perform operation) = commands.Perform operation
queued_command queueable.Unwatch = commands.Session sessions.Unwatch
queued_command queueable.Publish = commands.Session sessions.Publish
queued_command queueable.Pubsub = commands.Session sessions.Pubsub

abbrev pub queued_call : Queued → Call
queued_call queued = call (queued_command queued.command) queued.words.items

abbrev pub transaction_deed : Transaction → Deed
transaction_deed (transactions.Queued commands) = Run (map queued_call commands.items)
transaction_deed transactions.Spoiled = Abort

abbrev pub session_command : SessionUpdate → Command
session_command (session_updates.Subscribe kind) = commands.Session (sessions.Subscribe kind)
session_command (session_updates.Unsubscribe kind) = commands.Session (sessions.Unsubscribe kind)
session_command session_updates.Publish = commands.Session sessions.Publish
session_command session_updates.Watch = commands.Session sessions.Watch
session_command session_updates.Unwatch = commands.Session sessions.Unwatch
session_command session_updates.Discard = commands.Session sessions.Discard

abbrev pub update_deed : Update → Deed
update_deed (updates.Change command words) = Act (call (commands.Perform (operations.Change command)) words.items)
update_deed (updates.Session command words) = Act (call (session_command command) words.items)
update_deed (updates.Exec transaction) = transaction_deed transaction
update_deed (updates.Close None) = End None
update_deed (updates.Close (Some reply)) = End (Some (reply_of reply))

abbrev pub read_deed : Read → Deed
read_deed (reads.Look command words) = Act (call (commands.Perform (operations.Look command)) words.items)
read_deed (reads.Pubsub words) = Act (call (commands.Session sessions.Pubsub) words.items)
read_deed (reads.Local reply) = Say (reply_of reply)

abbrev pub deed_of : JobKind → Deed
deed_of (kinds.Update update) = update_deed update
deed_of (kinds.Read read) = read_deed read
