-- What became of the jobs of a worker at which nothing waits.
use Rattle.std.specs.Prelude.{◌≡◌, false, List, ◌∷◌, ◌++◌, length, Contains, Some}
use Rattle.std.specs.List.{AllByRecursion, slice_get}
use Rattle.nr_model.specs.Items.{Item, Sequence}
use Rattle.nr_entry.specs.Jobs.{items_of}
use Rattle.nr_entry.specs.declared.batch.Answer.{Answer}
use Rattle.nr_entry.specs.declared.batch.Batch.{Batch}
use Rattle.nr_entry.specs.declared.batch.Outcome.TheVariants.{Executed}
use Rattle.nr_log_end.specs.Standings.{record_of}
use Rattle.nr_slots.specs.declared.view.WorkerPast.{WorkerPast}
use Rattle.nr_combiner.specs.Served.{IsAmong}
use Rattle.nr_worker.specs.Seated.{OpenConnectionState}
use Rattle.nr_worker.specs.Portions.{seat_of}
use Rattle.nr_worker.specs.Worker.{Served, asked_of, history_of}
use Rattle.nr_worker.specs.Working.{WorkState}

-- a job is of a batch that was posted, whose answer was collected and says that all of it was executed
pub record WasExecuted (lane : WorkerPast) (job : Item) : Type 0 where
  pub before : List Batch
  pub batch : Batch
  pub after : List Batch
  pub posted : lane.posted ≡ before ++ batch ∷ after
  pub answer : Answer
  pub collected : slice_get lane.collected (length before) ≡ Some answer
  pub executed : answer.outcome ≡ Executed
  pub has : Contains (items_of batch.jobs.items) job

-- a job was told as executed, and stands in a record
pub record IsDone (lane : WorkerPast) (done : Sequence) (job : Item) : Type 0 where
  pub told : WasExecuted lane job
  pub there : IsAmong job done

-- So is each job that a connection asked for which has a seat that isn't cut: it stands in the record that the mark keeps.
abbrev pub AreExecutedOf : WorkState → Served → Type 0
AreExecutedOf v x = (s : OpenConnectionState) → seat_of v.worker.node v.seats x.connection ≡ Some s → s.cut ≡ false
    → AllByRecursion (IsDone v.worker.seat.lane (record_of (history_of v.mark))) (asked_of x)

abbrev pub AreAllExecuted : WorkState → List Served → Type 0
AreAllExecuted v served = AllByRecursion (AreExecutedOf v) served
