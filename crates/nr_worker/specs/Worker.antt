-- What a worker knows of all connections that were ever opened at it.
use Rattle.std.specs.Prelude.{◌≡◌, ℕ, ◌+◌, ◌≤◌, false, List, [], ◌∷◌, ◌++◌, Contains, Option, Some, None, IfSome}
use Rattle.std.specs.List.{AllByRecursion}
use Rattle.nr_model.specs.Bytes.{Bytes, IsBeginningOf}
use Rattle.nr_model.specs.Items.{Connection, Item, Sequence, is_update}
use Rattle.nr_model.specs.Asked.{cut_by, jobs_of_feeds}
use Rattle.nr_model.specs.Connections.{Feeding}
use Rattle.nr_model.specs.Entries.{Jobs}
use Rattle.nr_model.specs.Sequential.{emitted_for}
use Rattle.nr_entry.specs.Jobs.{items_of}
use Rattle.nr_entry.specs.declared.batch.Batch.{Batch}
use Rattle.nr_log_end.specs.declared.standing.Standing.{Standing}
use Rattle.nr_log_end.specs.declared.standing.LogEvent.{LogEvent}
use Rattle.nr_log_end.specs.Standings.{record_of}
use Rattle.nr_node.specs.Sound.{IsSound, ServesOpened}
use Rattle.nr_slots.specs.declared.view.CombinerPast.{CombinerPast}
use Rattle.nr_combiner.specs.Served.{AreExecuted, ComesFrom}

-- a connection that was opened, and may be gone: the bytes that were fed to it and when, the job that its close put, if it was closed and put one, the bytes that were
-- handed out for it, and the ends that it got as its node came back from a fall
pub record Served : Type 0 where
  pub connection : Connection
  pub fed : List Feeding
  pub closing : Option Item
  pub handed : Bytes
  pub ends : List Item

-- the jobs that its bytes and its close asked for, those of each feed at its moment
abbrev pub asked_of : Served → Jobs
asked_of x = cut_by x.closing (jobs_of_feeds x.connection [] x.fed)

-- the same with those ends
abbrev pub all_asked : Served → Jobs
all_asked x = asked_of x ++ x.ends

-- a worker: its node and its number there, the batches that it posted, what its node's combiner had done at its slot as it heard last, the standing of its mark, and all
-- connections that were ever opened at it
pub record WorkerState : Type 0 where
  pub node : ℕ
  pub worker : ℕ
  pub posted : List Batch
  pub heard : CombinerPast
  pub mark : Option Standing
  pub served : List Served

-- jobs whose numbers count up from a number
abbrev pub CountsFrom : ℕ → Jobs → Type 0
CountsFrom n [] = Unit {0}
CountsFrom n (job ∷ jobs) = (job.number ≡ n) × CountsFrom (n + 1) jobs

-- P holds of each job of these batches
abbrev pub AllPosted : (Item → Type 0) → List Batch → Type 0
AllPosted P batches = AllByRecursion (λ (batch : Batch). AllByRecursion P (items_of batch.jobs.items)) batches

-- one of these connections asked for the job, or got it as its end
pub record IsAskedBy (served : List Served) (job : Item) : Type 0 where
  pub one : Served
  pub there : Contains served one
  pub connection : one.connection ≡ job.connection
  pub asked : Contains (all_asked one) job

-- a job of a record is one that was posted, at its moment or, an update, at a later one
pub record IsPosted (posted : List Batch) (job : Item) : Type 0 where
  pub batch : Batch
  pub there : Contains posted batch
  pub has : ComesFrom job (items_of batch.jobs.items)

-- what a mark's node had done
abbrev pub history_of : Option Standing → List LogEvent
history_of None = []
history_of (Some s) = s.history

-- each job of a connection in a record was posted
abbrev pub ArePosted : List Batch → Connection → Sequence → Type 0
ArePosted posted c done = AllByRecursion (λ (job : Item). job.connection ≡ c → IsPosted posted job) done

-- a mark knows that a connection was opened for a worker
abbrev pub IsOpenedFor : ℕ → Connection → Option Standing → Type 0
IsOpenedFor worker c None = ⊥
IsOpenedFor worker c (Some s) = ServesOpened s worker c

-- What was handed out for a connection begins what one sequential Redis emits for it along a record of its node that begins the mark's, and each job of the connection
-- in that record was posted.
pub record IsHandedOut (mark : Option Standing) (posted : List Batch) (c : Connection) (handed : Bytes) : Type 0 where
  pub history : List LogEvent
  pub kept : IsBeginningOf history (history_of mark)
  pub begins : IsBeginningOf handed (emitted_for c (record_of history))
  pub jobs : ArePosted posted c (record_of history)

-- A connection of the node, which was opened for this worker: its jobs count up from 0. Each that was posted until it got an end as its node came back is one that it
-- asked for, and of these are the jobs of the record along which was emitted what was handed out. Behind that it got nothing, and each that was posted is one that it asked
-- for, or such an end.
pub record IsServedAt (d : WorkerState) (x : Served) : Type 0 where
  pub node : x.connection.node ≡ d.node
  pub opened : IsOpenedFor d.worker x.connection d.mark
  pub counted : CountsFrom 0 (asked_of x)
  pub before : List Batch
  pub after : List Batch
  pub split : d.posted ≡ before ++ after
  pub live : x.ends ≡ [] → after ≡ []
  pub posted : AllPosted (λ (job : Item). job.connection ≡ x.connection → Contains (asked_of x) job) before
  pub later : AllPosted (λ (job : Item). job.connection ≡ x.connection → Contains (all_asked x) job) after
  pub handed : IsHandedOut d.mark before x.connection x.handed

-- what a worker posted is what the standing's record has of its connections
abbrev pub HasItsOwn : WorkerState → Standing → Type 0
HasItsOwn d s = (c : Connection) → ServesOpened s d.worker c → ArePosted d.posted c (record_of s.history)

-- What holds of a worker: its mark is a sound standing of its node, whose record has no job of a connection that was opened for the worker but those that it posted, and the
-- jobs of each batch that was answered as executed as it heard last; each job that it posted is one that a connection asked for, or got as its end; and so it serves each
-- connection.
pub record IsLed (d : WorkerState) : Type 0 where
  pub sound : IfSome d.mark (λ (s : Standing). IsSound s × (s.node ≡ d.node))
  pub own : IfSome d.mark (HasItsOwn d)
  pub executed : AreExecuted (record_of (history_of d.mark)) d.heard.lifted d.heard.answered
  pub known : AllPosted (IsAskedBy d.served) d.posted
  pub each : AllByRecursion (IsServedAt d) d.served

-- A job is the one that was asked for, as it was executed: of the same connection, with its number and its deed, a read at its moment, an update then or later.
pub record IsAsked (job asked : Item) : Type 0 where
  pub connection : asked.connection ≡ job.connection
  pub number : asked.number ≡ job.number
  pub deed : asked.deed ≡ job.deed
  pub moment : asked.moment ≤ job.moment
  pub read : is_update job.deed ≡ false → job.moment ≡ asked.moment

-- these are the first that were asked for, one by one
abbrev pub AreAsked : Sequence → Jobs → Type 0
AreAsked [] asked = Unit {0}
AreAsked (job ∷ jobs) [] = ⊥
AreAsked (job ∷ jobs) (one ∷ asked) = IsAsked job one × AreAsked jobs asked
