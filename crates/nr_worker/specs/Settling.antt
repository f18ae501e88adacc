-- What becomes of a worker's batch.
use Rattle.std.specs.Prelude.{◌≡◌, ℕ, Bool, true, false, cond, nat_le, List, [], ◌++◌, length, Contains}
use Rattle.std.specs.List.{AllByRecursion}
use Rattle.nr_model.specs.Items.{Item}
use Rattle.nr_entry.specs.Jobs.{items_of}
use Rattle.nr_entry.specs.declared.batch.Batch.{Batch}
use Rattle.nr_entry.specs.declared.batch.Outcome.{Outcome}
use Rattle.nr_entry.specs.declared.batch.Outcome.TheVariants as outcomes
use Rattle.nr_entry.specs.declared.job.Job.{Job}
use Rattle.nr_combiner.specs.Workers.{HasCollected, NodeHandleState}
use Rattle.nr_entry.specs.declared.entry.TheConstants.{MOST_JOBS}
use Rattle.nr_worker.specs.declared.collecting.Settled.{Settled}
use Rattle.nr_worker.specs.declared.collecting.Settled.TheVariants as settled
use Rattle.nr_worker.specs.Working.{WorkState}

-- what is told of an outcome; more jobs than a batch has, which never come back, are as if the node was down
abbrev pub settled_of : ℕ → Outcome → Settled
settled_of most outcomes.Executed = settled.Executed
settled_of most outcomes.Down = settled.Down
settled_of most (outcomes.Refused why back) = cond (nat_le (length back.items) most) (settled.HandedBack why) settled.Down

-- the jobs that come back
abbrev pub back_of : ℕ → Outcome → List Job
back_of most outcomes.Executed = []
back_of most outcomes.Down = []
back_of most (outcomes.Refused why back) = cond (nat_le (length back.items) most) back.items []

-- those that go on to wait: none, where the node is down
abbrev pub left_of : ℕ → Outcome → List Job → List Job
left_of most outcomes.Executed jobs = jobs
left_of most outcomes.Down jobs = []
left_of most (outcomes.Refused why back) jobs = cond (nat_le (length back.items) most) jobs []

-- how many of those are late
abbrev pub late_of : ℕ → Outcome → ℕ → ℕ
late_of most outcomes.Executed late = late
late_of most outcomes.Down late = 0
late_of most (outcomes.Refused why back) late = cond (nat_le (length back.items) most) late 0

-- whether the node is known to be down
abbrev pub down_of : ℕ → Outcome → Bool → Bool
down_of most outcomes.Executed down = down
down_of most outcomes.Down down = true
down_of most (outcomes.Refused why back) down = cond (nat_le (length back.items) most) down true

-- no answer is awaited any more, and the jobs that came back stand in front of the others
abbrev pub settled_work : Outcome → NodeHandleState → WorkState → WorkState
settled_work outcome worker v =
    record v {
      worker = worker;
      jobs = back_of MOST_JOBS outcome ++ left_of MOST_JOBS outcome v.jobs;
      returned = length (back_of MOST_JOBS outcome);
      waiting = false;
      down = down_of MOST_JOBS outcome v.down;
      late = late_of MOST_JOBS outcome v.late;
    }

-- The answer to the batch that was posted last was collected, and tells this.
pub record HasSettled (told : Settled) (v w : WorkState) : Type 0 where
  pub outcome : Outcome
  pub collected : HasCollected outcome v.worker w.worker
  pub says : told ≡ settled_of MOST_JOBS outcome
  pub changed : w ≡ settled_work outcome w.worker v

-- a job is one of a batch among these
pub record IsOfBatch (posted : List Batch) (job : Item) : Type 0 where
  pub batch : Batch
  pub there : Contains posted batch
  pub has : Contains (items_of batch.jobs.items) job

abbrev pub AreOfBatches : List Batch → List Job → Type 0
AreOfBatches posted jobs = AllByRecursion (IsOfBatch posted) (items_of jobs)
