-- What a story tells of a worker of the law.
use Rattle.std.specs.Prelude.{◌≡◌, false, List, [], ◌∷◌, ◌++◌, filter, Contains, Some}
use Rattle.std.specs.List.{AllByRecursion}
use Rattle.nr_model.specs.Items.{Connection, Item, same_connection}
use Rattle.nr_model.specs.Connections.{Feeding, handed_to}
use Rattle.nr_service.specs.Stories.{Closing, Occurrence, Fed, opened_in, fed_in, handed_in, closings_in, is_among}
use Rattle.nr_worker.specs.Worker.{WorkerState, IsLed, Served}
use Rattle.nr_worker.specs.Law.{GoesTo}
use Rattle.nr_worker.specs.Working.{connections_of}

-- what was fed to a connection, in order
abbrev pub feeds_to : Connection → List Feeding → List Feeding
feeds_to c feeds = filter (λ (feeding : Feeding). same_connection feeding.connection c) feeds

-- the closes of a connection, in order
abbrev pub closings_of : Connection → List Closing → List Closing
closings_of c closings = filter (λ (closing : Closing). same_connection closing.connection c) closings

-- a connection's close at the moment of the job that it put
abbrev pub close_by : Connection → Item → Closing
close_by c job = record { connection = c; moment = job.moment }

-- A connection was fed what is told, and what is told was handed out for it. Where its close put a last job, which ends it, it is told that it was closed at the
-- moment of that job.
pub record IsTold (occurrences : List Occurrence) (x : Served) : Type 0 where
  pub fed : x.fed ≡ feeds_to x.connection (fed_in occurrences)
  pub handed : x.handed ≡ handed_to x.connection (handed_in occurrences)
  pub closed : (job : Item) → x.closing ≡ Some job → Contains (closings_in occurrences) (close_by x.connection job)

-- nothing is told of a connection
pub record IsUntold (occurrences : List Occurrence) (c : Connection) : Type 0 where
  pub fed : feeds_to c (fed_in occurrences) ≡ []
  pub handed : handed_to c (handed_in occurrences) ≡ []
  pub closed : closings_of c (closings_in occurrences) ≡ []

-- These connections were opened, in this order, and no others; each was fed what is told, what is told was handed out for it, and each that has a last job was
-- closed at its moment, as is told. Of others nothing is told.
pub record Tells (occurrences : List Occurrence) (served : List Served) : Type 0 where
  pub opened : opened_in occurrences ≡ connections_of served
  pub each : AllByRecursion (IsTold occurrences) served
  pub others : (c : Connection) → is_among c (opened_in occurrences) ≡ false → IsUntold occurrences c

-- a worker went on to this one from what is told
pub record Was (occurrences : List Occurrence) (d : WorkerState) : Type 0 where
  pub earlier : WorkerState
  pub led : IsLed earlier
  pub tells : Tells occurrences earlier.served
  pub goes : GoesTo earlier d

-- so it did from what is told in front of each feed: what its mark knew then, it knew first
abbrev pub WasAtFeeds : List Occurrence → WorkerState → Type 0
WasAtFeeds occurrences d = (front back : List Occurrence) (feeding : Feeding) → occurrences ≡ front ++ Fed feeding ∷ back → Was front d
