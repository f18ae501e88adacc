-- What a combiner keeps of its node and of the batches that it lifted.
use Rattle.std.specs.Prelude.{◌≡◌, ℕ, ◌<◌, ◌≤◌, false, List, [], ◌∷◌, ◌++◌, length, Contains, Option, Some, None, slice_index_or, refl}
use Rattle.std.specs.List.{AllByRecursion, slice_get}
use Rattle.std.specs.Coded.{Coded, code_by, coded×}
use Rattle.nr_model.specs.Items.{Item, Sequence, is_update}
use Rattle.nr_model.specs.Entries.{Jobs}
use Rattle.nr_entry.specs.Jobs.{items_of}
use Rattle.nr_entry.specs.declared.batch.Batch.{Batch}
use Rattle.nr_entry.specs.declared.batch.Answer.{Answer}
use Rattle.nr_entry.specs.declared.batch.Outcome.{Outcome}
use Rattle.nr_entry.specs.declared.batch.Outcome.TheVariants.{Executed, Down, Refused}
use Rattle.nr_log_end.specs.Standings.{record_of}
use Rattle.nr_slots.specs.declared.view.CombinerPast.{CombinerPast}
use Rattle.nr_slots.specs.Rule.{no_desk}
use Rattle.nr_slots.specs.Seats.{CombinerView, desk_of}
use Rattle.nr_slots.specs.Codes.{combiner_code}
use Rattle.nr_node.specs.Level.{NodeState, coded_node, unpassed, jobs_reserved, all_jobs, IsLevel}
use Rattle.nr_node.specs.Owing.{IsServedBy}
use Rattle.nr_combiner.specs.Counts.{Counts, coded_counts}

-- the node, the combiner's seat at its workers' slots, and what it counts of their connections
pub record CombinerState : Type 0 where
  pub node : NodeState
  pub seat : CombinerView
  pub counts : Counts

abbrev pub coded_combiner : Coded CombinerState
coded_combiner =
    code_by (NodeState × (CombinerView × Counts)) (coded× coded_node (coded× combiner_code coded_counts)) (λ c. (c.node, (c.seat, c.counts)))
    (λ p. record { node = p.0; seat = p.1.0; counts = p.1.1 }) (λ _. refl)

-- its node is level with the log: the replica is down, or is the sequential Redis after the record; and what waits for each connection is what the record emits for it
abbrev pub StandsLevel : CombinerState → Type 0
StandsLevel c = IsLevel c.node.seat.standing c.node.replica

-- how many jobs of a worker's batch are neither applied nor run, where one was taken and isn't answered
abbrev pub owed_at : ℕ → NodeState → Option ℕ
owed_at worker n = slice_index_or n.replica.owed worker None

-- one of these is the job, but for its moment: it is of the same connection, and has its number and its deed
pub record IsAmong (job : Item) (jobs : Jobs) : Type 0 where
  pub item : Item
  pub there : Contains jobs item
  pub connection : item.connection ≡ job.connection
  pub number : item.number ≡ job.number
  pub deed : item.deed ≡ job.deed

-- One of these is the job, as it was handed in: it is of the same connection, and has its number and its deed. A read is run at its own moment, and an update at its
-- own or a later one.
pub record ComesFrom (job : Item) (jobs : Jobs) : Type 0 where
  pub item : Item
  pub there : Contains jobs item
  pub connection : item.connection ≡ job.connection
  pub number : item.number ≡ job.number
  pub deed : item.deed ≡ job.deed
  pub moment : item.moment ≤ job.moment
  pub read : is_update job.deed ≡ false → job.moment ≡ item.moment

-- the jobs that a node has: those in its record, and those that it has still to pass, to reserve or to run
abbrev pub jobs_of : NodeState → Jobs
jobs_of n = all_jobs n.seat.standing n.next n.replica.waiting

-- a job is of a connection of the node, and of one that this worker serves
pub record IsOfWorker (n : NodeState) (worker : ℕ) (job : Item) : Type 0 where
  pub node : job.connection.node ≡ n.book.node
  pub served : IsServedBy worker n.replica.members job

-- one that was taken: the node has it, unless its replica is down
pub record IsTakenOf (n : NodeState) (worker : ℕ) (job : Item) : Type 0 where
  pub own : IsOfWorker n worker job
  pub has : n.replica.down ≡ false → IsAmong job (jobs_of n)

-- the batch that was lifted last is the only one that isn't answered; it names the worker and this number, and its jobs were taken
pub record HoldsBatch (n : NodeState) (worker number : ℕ) (desk : CombinerPast) : Type 0 where
  pub before : List Batch
  pub batch : Batch
  pub lifted : desk.lifted ≡ before ++ batch ∷ []
  pub answered : length desk.answered ≡ length before
  pub named : (batch.node ≡ n.book.node) × (batch.worker ≡ worker) × (batch.number ≡ number)
  pub jobs : AllByRecursion (IsTakenOf n worker) (items_of batch.jobs.items)

-- a worker's desk: all batches are answered where it waits for no answer
abbrev pub IsDesk : NodeState → ℕ → ℕ → CombinerPast → Option ℕ → Type 0
IsDesk n worker number desk None = length desk.lifted ≡ length desk.answered
IsDesk n worker number desk (Some owed) = HoldsBatch n worker number desk

-- each of these jobs is in the record
abbrev pub StandIn : Sequence → List Item → Type 0
StandIn done jobs = AllByRecursion (λ (job : Item). IsAmong job done) jobs

-- so are those of each batch that was answered as executed
abbrev pub AreExecuted : Sequence → List Batch → List Answer → Type 0
AreExecuted done [] answers = Unit {0}
AreExecuted done (batch ∷ batches) [] = Unit {0}
AreExecuted done (batch ∷ batches) (answer ∷ answers) =
    (answer.outcome ≡ Executed → StandIn done (items_of batch.jobs.items)) × AreExecuted done batches answers

-- it doesn't hand a batch back
abbrev pub IsNoRefusal : Outcome → Type 0
IsNoRefusal Executed = Unit {0}
IsNoRefusal Down = Unit {0}
IsNoRefusal (Refused why jobs) = ⊥

-- nor does the answer, where there is one
abbrev pub HandsNoneBack : Option Answer → Type 0
HandsNoneBack None = Unit {0}
HandsNoneBack (Some answer) = IsNoRefusal answer.outcome

-- a batch was lifted from a worker's slot, and wasn't handed back
pub record IsLifted (desks : List CombinerPast) (worker : ℕ) (batch : Batch) : Type 0 where
  pub before : List Batch
  pub after : List Batch
  pub lifted : (slice_index_or desks worker no_desk).lifted ≡ before ++ batch ∷ after
  pub kept : HandsNoneBack (slice_get (slice_index_or desks worker no_desk).answered (length before))

-- a batch that was lifted from the slot of the worker that serves the job's connection, and wasn't handed back, has it
pub record IsOfBatch (n : NodeState) (desks : List CombinerPast) (job : Item) : Type 0 where
  pub worker : ℕ
  pub own : IsOfWorker n worker job
  pub batch : Batch
  pub lifted : IsLifted desks worker batch
  pub has : ComesFrom job (items_of batch.jobs.items)

abbrev pub IsOwnOfBatch : NodeState → List CombinerPast → Item → Type 0
IsOwnOfBatch n desks job = job.connection.node ≡ n.book.node → IsOfBatch n desks job

-- P holds of each job in a node's record, of those in the entries that it reserved and hasn't passed, of those of its next entry, and of those that wait
pub record AllJobs (P : Item → Type 0) (n : NodeState) : Type 0 where
  pub done : AllByRecursion P (record_of n.seat.standing.history)
  pub reserved : AllByRecursion P (jobs_reserved (unpassed n.seat.standing))
  pub due : AllByRecursion P (items_of n.next)
  pub waits : AllByRecursion P (items_of n.replica.waiting)

-- it has none of these
abbrev pub HasNoJobs : NodeState → Type 0
HasNoJobs n = (n.seat.standing.history ≡ []) × (n.seat.standing.reservations ≡ []) × (n.next ≡ []) × (n.replica.waiting ≡ [])

-- Between two calls a desk has no batch without an answer but the one that was lifted last, where the node has still to answer it; each job of a
-- batch that was answered as executed is in the node's record; and each job of a connection of the node, wherever it is, is one of a batch that
-- was lifted and not handed back.
pub record IsServed (n : NodeState) (seat : CombinerView) (numbers : List ℕ) : Type 0 where
  pub workers : length seat.desks ≡ length n.replica.owed
  pub numbered : length numbers ≡ length n.replica.owed
  pub desks : (worker : ℕ) → worker < length n.replica.owed → IsDesk n worker (slice_index_or numbers worker 0) (desk_of seat worker) (owed_at worker n)
  pub executed : (worker : ℕ) → worker < length n.replica.owed
      → AreExecuted (record_of n.seat.standing.history) (desk_of seat worker).lifted (desk_of seat worker).answered
  pub handed_in : AllJobs (IsOwnOfBatch n seat.desks) n
