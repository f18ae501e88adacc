-- What a node owes its workers: the jobs of their batches that are neither applied nor run, and what becomes of a batch.
use Rattle.std.specs.Prelude.{◌≡◌, ℕ, zero, suc, ◌<◌, Bool, true, false, List, [], ◌++◌, length, map, Option, Some, None, is_some, slice_index_or, slice_set}
use Rattle.std.specs.List.{AllByRecursion, range_with_len}
use Rattle.std.specs.FinMap as finmap
use Rattle.nr_model.specs.Items.{Item}
use Rattle.nr_model.specs.Entries.{Jobs}
use Rattle.nr_entry.specs.Jobs.{items_of}
use Rattle.nr_entry.specs.declared.batch.Outcome.{Outcome}
use Rattle.nr_entry.specs.declared.batch.Outcome.TheVariants as outcomes
use Rattle.nr_entry.specs.declared.job.Job.{Job}
use Rattle.nr_log_end.specs.declared.standing.Standing.{Standing}
use Rattle.nr_log_end.specs.Standings.{record_of}
use Rattle.nr_job_numbers.specs.declared.account.Account.{Account}
use Rattle.nr_job_numbers.specs.Stored.{Held, numbers_in}
use Rattle.nr_replica.specs.Members.{Member, worker_of, jobs_of_worker}
use Rattle.nr_node.specs.Level.{NodeState, connection_at, unpassed, jobs_reserved}

-- the jobs that were taken and aren't in the record: those of the entries that the node has still to pass, those of the next entry, and those that wait
abbrev pub unexecuted : Standing → List Job → List Job → Jobs
unexecuted s next waiting = jobs_reserved (unpassed s) ++ (items_of next ++ items_of waiting)

-- each is of a connection with a serial below this
abbrev pub AreOpened : ℕ → Jobs → Type 0
AreOpened count jobs = AllByRecursion (λ (job : Item). job.connection.serial < count) jobs

-- how many jobs are owed: none where no batch was taken, or it was answered
abbrev pub count_owed : Option ℕ → ℕ
count_owed None = 0
count_owed (Some count) = count

-- which workers wait for the answer to a batch
abbrev pub awaited : List (Option ℕ) → List Bool
awaited owed = map is_some owed

-- each job is of a connection that was opened, and each worker is owed as many jobs as there are of its connections
pub record IsOwing (members : List Member) (owed : List (Option ℕ)) (jobs : Jobs) : Type 0 where
  pub opened : AreOpened (length members) jobs
  pub counts : (worker : ℕ) → count_owed (slice_index_or owed worker None) ≡ length (jobs_of_worker worker members jobs)

-- a job is of a connection that was opened, by its serial, and that this worker serves; of which node it is isn't asked
abbrev pub IsServedBy : ℕ → List Member → Item → Type 0
IsServedBy worker members job = (job.connection.serial < length members) × (worker_of members job.connection ≡ worker)

-- each account is of a connection of the node that was opened, and of the worker that serves it
abbrev pub HasAccounts : ℕ → List Member → Held → Type 0
HasAccounts node members held = (serial : ℕ) (account : Account) → finmap.get held serial ≡ Some account
    → (serial < length members) × (account.worker ≡ worker_of members (connection_at node serial))

-- what became of the batch that was taken last from a worker: nothing yet where a job of it is owed
abbrev pub answer_by : Option ℕ → Bool → Option Outcome
answer_by None down = None
answer_by (Some count) true = Some outcomes.Down
answer_by (Some zero) false = Some outcomes.Executed
answer_by (Some (suc count)) false = None

abbrev pub answer_of : NodeState → ℕ → Option Outcome
answer_of n worker = answer_by (slice_index_or n.replica.owed worker None) n.replica.down

-- it was answered
abbrev pub answered_node : ℕ → NodeState → NodeState
answered_node worker n = record n { replica = record n.replica { owed = slice_set n.replica.owed worker None } }

-- No job of a worker's connections goes on waiting, and of a connection that has an account as many as it says are in the record, numbered 0, 1, 2 and so on: so
-- all that were taken are there.
pub record HasAllExecuted (worker : ℕ) (n : NodeState) : Type 0 where
  pub none : jobs_of_worker worker n.replica.members (unexecuted n.seat.standing n.next n.replica.waiting) ≡ []
  pub executed : (serial : ℕ) (account : Account) → finmap.get n.book.held serial ≡ Some account → account.worker ≡ worker
      → numbers_in (connection_at n.book.node serial) (record_of n.seat.standing.history) ≡ range_with_len 0 account.next
