-- What a worker leaves.
use Rattle.std.specs.Prelude.{◌≡◌, ℕ, List, ◌++◌, Option, IfSome, All}
use Rattle.std.specs.List.{AllByRecursion}
use Rattle.nr_model.specs.Bytes.{Bytes}
use Rattle.nr_log_end.specs.declared.standing.Standing.{Standing}
use Rattle.nr_service.specs.Pollers.{AreGivenBack, Parting}
use Rattle.nr_service.specs.Readings.{AreFedFrom}
use Rattle.nr_service.specs.Endings.{ByEnding}
use Rattle.nr_service.specs.Serving.{AreOpened, IsApart, IsLeft, connection, streams_of}
use Rattle.nr_service.specs.Stories.{Story, bytes_fed, bytes_handed, fed_in, closings_in}
use Rattle.nr_service.specs.declared.client.Client.{Client}
use Rattle.nr_service.specs.declared.ended.Ended.{Ended}
use Rattle.nr_worker.specs.Worker.{WorkerState, IsLed}
use Rattle.nr_worker_service.specs.Told.{Tells, WasAtFeeds}
use Rattle.nr_crew.specs.declared.lane.WorkerEnd.{WorkerEnd}
use Rattle.nr_crew.specs.declared.serving.ClientLimits.{ClientLimits}

-- A client that is there at a turn's end: it was fed exactly what its stream received, and its stream sent all that was handed out for it, but for the bytes that were kept yet.
pub record IsServedWhole {S : Type 0} (was_received was_sent : S → Option Bytes) (story : Story) (client : Client S) : Type 0 where
  pub kept : Bytes
  pub received : IfSome (was_received client.stream) (λ bytes. bytes ≡ bytes_fed (connection client) story)
  pub sent : IfSome (was_sent client.stream) (λ bytes. bytes_handed (connection client) story ≡ bytes ++ kept)

-- so it is with each, unless memory ran out or every node was down
abbrev pub AreServedWhole : {S : Type 0} → (S → Option Bytes) → (S → Option Bytes) → Story → Ended → List (Client S) → Type 0
AreServedWhole was_received was_sent story ended clients = ByEnding ended (All (IsServedWhole was_received was_sent story) clients) (Unit {0})

-- A story tells of all that was fed to a worker's connections and handed out for them, of those that were ever opened at it, no two of which are one, and that each whose close
-- put a last job was closed at the moment of that job. Each was one of a client, of those that left or of those that are there: it was fed a beginning of what its stream received,
-- and its stream sent a beginning of what was handed out for it; each that is there was fed all and was sent all that wasn't kept, where a turn was the last. The streams of
-- those that left were given back, and bytes were fed and connections closed at the moments behind the readings of the worker's clock.
pub record HasServed {S M : Type 0} (was_received was_sent : S → Option Bytes) (gives : M → M → Option ℕ → Type 0) (given : Option (List (Parting S)))
    (ended : Ended) (clients : List (Client S)) (worker : WorkerState) : Type 0 where
  pub story : Story
  pub gone : List (Client S)
  pub first : M
  pub tells : Tells story.occurrences worker.served
  pub earlier : WasAtFeeds story.occurrences worker
  pub left : All (IsLeft was_received was_sent story) (gone ++ clients)
  pub whole : AreServedWhole was_received was_sent story ended clients
  pub opened : AreOpened story gone clients
  pub apart : IsApart story
  pub given_back : AreGivenBack (streams_of gone) given
  pub in_time : AreFedFrom gives first (fed_in story.occurrences) (closings_in story.occurrences)

-- So it was with this worker of a node, whose mark this is.
pub record IsAnswered {S M : Type 0} (was_received was_sent : S → Option Bytes) (gives : M → M → Option ℕ → Type 0) (given : Option (List (Parting S)))
    (node number : ℕ) (ended : Ended) (mark : Option Standing) (clients : List (Client S)) : Type 0 where
  pub worker : WorkerState
  pub led : IsLed worker
  pub node_is : worker.node ≡ node
  pub number_is : worker.worker ≡ number
  pub marked : worker.mark ≡ mark
  pub served : HasServed was_received was_sent gives given ended clients worker

-- each of these served its clients within these limits
abbrev pub AreServedWithin : {S D M : Type 0} → ClientLimits → List (WorkerEnd S D M) → Type 0
AreServedWithin {S} {D} {M} limits lefts = AllByRecursion (λ (left : WorkerEnd S D M). left.limits ≡ limits) lefts
