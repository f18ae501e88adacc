-- Which stories may have led to a worker.
use Rattle.std.specs.Prelude.{◌≡◌, ℕ, false}
use Rattle.nr_model.specs.Connections.{Setup}
use Rattle.nr_service.specs.Stories.{Story}
use Rattle.nr_worker.specs.Worker.{WorkerState, IsLed}
use Rattle.nr_worker.specs.Resting.{AreAllExecuted}
use Rattle.nr_worker.specs.Working.{Reflects}
use Rattle.nr_worker_service.specs.Serving.{WorkerBackendState}
use Rattle.nr_worker_service.specs.Told.{Tells, WasAtFeeds}
use Rattle.nr_worker_service.specs.Works.{IsResting}

-- the story of one worker has for the size of what answers which worker of which node that is
abbrev pub size_of : ℕ → ℕ → Setup
size_of node worker = record { nodes = node; places = 0; workers = worker; connections = 0; queue_limit = 0 }

-- So may a story have led to it: it stands for a worker of the law of which the story tells.
pub record HasLedTo (d : WorkerBackendState) (story : Story) : Type 0 where
  pub worker : WorkerState
  pub sized : story.setup ≡ size_of worker.node worker.worker
  pub led : IsLed worker
  pub reflects : Reflects d.desk worker
  pub tells : Tells story.occurrences worker.served
  pub earlier : WasAtFeeds story.occurrences worker

-- And nothing is left to be done, unless it is busy: each job that was asked for was handed in, what became of it is known, and the last turn of its work left nothing.
-- Where its node isn't known to be down, each job that was asked for by a connection that is open and not cut was told as executed, and stands in the record that its mark keeps.
pub record IsAtRest (places : ℕ) (d : WorkerBackendState) (story : Story) : Type 0 where
  pub led : HasLedTo d story
  pub rest : d.busy ≡ false → IsResting places d.desk
  pub executed : d.busy ≡ false → d.desk.down ≡ false → AreAllExecuted d.desk led.worker.served
