-- Reads that a worker ran beside its node's lock and handed in with their replies.
use Rattle.std.specs.Prelude.{◌≡◌, ℕ}
use Rattle.nr_model.specs.Asked.{own_jobs}
use Rattle.nr_model.specs.Items.{Connection}
use Rattle.nr_entry.specs.Jobs.{items_of}
use Rattle.nr_combiner.specs.declared.answering.Lifts.TheVariants.{Own}
use Rattle.nr_combiner.specs.declared.answering.Turned.{Turned}
use Rattle.nr_worker.specs.Working.{Goes, HandsIn, HandsOn, TakesTurn, WorkState, unchanged}

-- The first so many jobs were handed in, and a turn with the own slot took them: what it handed out waits at the seats of its connections.
pub record ReadsAside (places count most : ℕ) (turned : Turned) (v w : WorkState) : Type 0 where
  pub between : WorkState
  pub handed_in : HandsIn count v between
  pub goes : Goes unchanged v between
  pub took : TakesTurn places Own most turned between w
  pub handed : HandsOn between w

-- The same jobs wait in another order: those of each connection stay in theirs.
pub record Reorders (v w : WorkState) : Type 0 where
  pub own : (c : Connection) → own_jobs c (items_of w.jobs) ≡ own_jobs c (items_of v.jobs)
  pub changed : w ≡ record v { jobs = w.jobs }

-- The same jobs wait. Some of them, the first, may be such as were handed back, and fewer may be late.
pub record KeepsJobs (v w : WorkState) : Type 0 where
  pub changed : w ≡ record v { returned = w.returned; late = w.late }
