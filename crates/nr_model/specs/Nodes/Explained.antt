-- What it means that one sequence explains a server of several nodes, and the law that there is one for every past.
use Rattle.std.specs.Prelude.{◌≡◌, ◌<◌, ◌≤◌, ℕ, zero, suc, ◌+◌, Bool, true, false, not, cond, List, [], ◌∷◌, ◌++◌, length, map, take, drop, filter, flat_map, Contains, Some}
use Rattle.std.specs.List.{range_with_len}
use Rattle.nr_model.specs.Bytes.{Bytes, IsBeginningOf}
use Rattle.nr_model.specs.declared.command.Kind.{Kind}
use Rattle.nr_model.specs.Items.{Connection, Item, Sequence, is_update}
use Rattle.nr_model.specs.Sequential.{redis, past_of, emitted_for}
use Rattle.nr_model.specs.Sequential.Events.{database_of}
use Rattle.nr_model.specs.Sequential.Subscribers.{subscribers}
use Rattle.nr_model.specs.Sequential.Watches.{is_spoiled}
use Rattle.nr_model.specs.Servers.{database_in, subscribers_in, is_spoiled_in}
use Rattle.nr_model.specs.Entries.{Jobs, entry_items}
use Rattle.nr_model.specs.Connections.{Setup, handed_to}
use Rattle.nr_model.specs.Asked.{own_jobs, jobs_of_feeds, cut_by, closing_job}
use Rattle.nr_model.specs.Nodes.{Taken, Entry, Reads, Batch, World, node_at, client_of, jobs_taken, part_of, sequence_of}
use Rattle.nr_model.specs.Nodes.Steps.{is_client}
use Rattle.nr_model.specs.Nodes.Pasts.{Event, Answering, IsPast, world_after, handed_in}

-- the jobs that were executed, each with its own moment: reserved in an entry, or run
abbrev pub jobs_executed : World → Jobs
jobs_executed world = flat_map jobs_taken world.taken

-- the jobs that a connection's bytes and its close ask for
abbrev pub asked_jobs : World → Connection → Jobs
asked_jobs world c = cut_by (closing_job c world.closed) (jobs_of_feeds c [] world.fed)

-- the logged items: the entries' jobs, by entry and by place in the entry, each at its entry's moment
abbrev pub logged_part : Taken → Sequence
logged_part (Entry node jobs) = entry_items jobs
logged_part (Reads node count jobs) = []

abbrev pub logged_items : World → Sequence
logged_items world = flat_map logged_part world.taken

-- how many items stand in the first so many entries
abbrev pub items_before : ℕ → List Taken → ℕ
items_before count [] = 0
items_before zero (taken ∷ more) = 0
items_before (suc count) (Entry node jobs ∷ more) = length jobs + items_before count more
items_before (suc count) (Reads node at jobs ∷ more) = items_before (suc count) more

-- a read, and how many logged items stand before it
pub record Placed : Type 0 where
  pub before : ℕ
  pub item : Item

abbrev pub placed_all : ℕ → Jobs → List Placed
placed_all before [] = []
placed_all before (job ∷ jobs) = record { before = before; item = job } ∷ placed_all before jobs

-- the reads of a sequence, each with the number of updates before it
abbrev pub reads_in : ℕ → Sequence → List Placed
reads_in before [] = []
reads_in before (item ∷ items) =
    cond (is_update item.deed) (reads_in (before + 1) items) (record { before = before; item = item } ∷ reads_in before items)

-- the reads that looks ran, each behind all items of the entries that its node had applied
abbrev pub placed_reads : List Taken → List Taken → List Placed
placed_reads all [] = []
placed_reads all (Entry node jobs ∷ more) = placed_reads all more
placed_reads all (Reads node count jobs ∷ more) = placed_all (items_before count all) jobs ++ placed_reads all more

-- The numbers of each connection's items count up from 0, and its executed jobs are a beginning of those that its bytes and its close ask for; the
-- updates of the sequence are those of the entries, by entry and place, and the reads those that looks ran, each behind the entries that its node
-- had applied.
pub record Holds (items : Sequence) (world : World) : Type 0 where
  pub numbered : (c : Connection) → map (λ item. item.number) (own_jobs c items) ≡ range_with_len 0 (length (own_jobs c items))
  pub own : (c : Connection) → IsBeginningOf (own_jobs c (jobs_executed world)) (asked_jobs world c)
  pub logged : filter (λ item. is_update item.deed) items ≡ logged_items world
  pub reads : reads_in 0 items ≡ placed_reads world.taken world.taken

-- the batch that an answer names
abbrev pub IsBatchOf : Answering → Batch → Type 0
IsBatchOf a b = (b.node ≡ a.node) × (b.worker ≡ a.worker) × (b.number ≡ a.batch)

-- a node is up, and a connection of it takes what is emitted
abbrev pub is_up : ℕ → World → Bool
is_up r world = not (node_at r world).down

abbrev pub IsWhole : Connection → World → Type 0
IsWhole c world = (is_client world c ≡ true) × (is_up c.node world ≡ true) × ((client_of c world).queue.cut ≡ false)

-- what waits for a connection
abbrev pub waiting_for : World → Connection → Bytes
waiting_for world c = cond (is_client world c) (client_of c world).queue.waiting []

-- what a connection was handed, and then what waits for it
abbrev pub account_of : List Event → World → Connection → Bytes
account_of events world c = handed_to c (handed_in events) ++ waiting_for world c

-- Each connection has received a beginning of what one sequential Redis emits for it along the sequence. Where its node is up and its queue isn't
-- cut, it has received what that Redis emits along the part that its node has applied.
pub record IsAccounted (items : Sequence) (events : List Event) (world : World) : Type 0 where
  pub beginning : (c : Connection) → IsBeginningOf (account_of events world c) (emitted_for c items)
  pub whole : (c : Connection) → IsWhole c world → account_of events world c ≡ emitted_for c (part_of c.node world)

-- A replica of a node that is up is the sequential Redis after its part: in its keys with their values and deadlines, in its connections' databases and
-- what they are subscribed to, and in whether an EXEC would find their watches touched. The updates of the part are the first of the sequence.
pub record IsReplica (items : Sequence) (r : ℕ) (world : World) : Type 0 where
  pub keyspace : (node_at r world).server.keyspace ≡ redis (part_of r world)
  pub databases : (c : Connection) → database_in (node_at r world).server.databases c ≡ database_of c (past_of (part_of r world))
  pub subscribers : (kind : Kind) (name : Bytes) → subscribers_in (node_at r world).server.held kind name ≡ subscribers kind name (past_of (part_of r world))
  pub spoiled : (c : Connection) (now : ℕ) → is_spoiled_in (node_at r world).server c now ≡ is_spoiled c now [] (past_of (part_of r world))
  pub prefix : IsBeginningOf (filter (λ item. is_update item.deed) (part_of r world)) (filter (λ item. is_update item.deed) items)

-- a job stands before another
pub record StandsBefore (x y : Item) (jobs : Jobs) : Type 0 where
  pub front : Jobs
  pub between : Jobs
  pub back : Jobs
  pub stand : jobs ≡ front ++ x ∷ between ++ y ∷ back

-- By these events a batch with this job was answered as executed,
pub record IsAnswered (events : List Event) (world : World) (x : Item) : Type 0 where
  pub event : Event
  pub answer : Answering
  pub batch : Batch
  pub event_in : Contains events event
  pub answer_in : event.answer ≡ Some answer
  pub executed : answer.executed ≡ true
  pub batch_in : Contains world.batches batch
  pub named : IsBatchOf answer batch
  pub job_in : Contains batch.jobs x

-- or the last byte was handed out of what the executed job at this place of the sequence emits for its connection.
pub record IsHandedOut (events : List Event) (items : Sequence) (jobs : Jobs) (x : Item) : Type 0 where
  pub place : ℕ
  pub behind : Jobs
  pub is_there : drop place jobs ≡ x ∷ behind
  pub some : length (emitted_for x.connection (take place items)) < length (emitted_for x.connection (take (suc place) items))
  pub handed : length (emitted_for x.connection (take (suc place) items)) ≤ length (handed_to x.connection (handed_in events))

-- A job of which the answer, or the last byte, was handed out stands before each that was asked for later. The executed jobs stand in the order of their
-- items.
pub record IsInTime (items : Sequence) (setup : Setup) (events : List Event) (world : World) : Type 0 where
  pub answered : (before later : List Event) (x y : Item) → events ≡ before ++ later → IsAnswered before (world_after setup before) x
      → Contains (jobs_executed world) y → (Contains (asked_jobs (world_after setup before) y.connection) y → ⊥) → StandsBefore x y (jobs_executed world)
  pub handed : (before later : List Event) (x y : Item) → events ≡ before ++ later → IsHandedOut before items (jobs_executed world) x
      → Contains (jobs_executed world) y → (Contains (asked_jobs (world_after setup before) y.connection) y → ⊥) → StandsBefore x y (jobs_executed world)

-- Every job of a batch whose answer, as its worker took it, says executed is in the sequence.
abbrev pub AreExecuted : List Event → World → Type 0
AreExecuted events world = (x : Item) → IsAnswered events world x → Contains (jobs_executed world) x

-- One sequence explains a past and the world that it led to.
pub record Explains (items : Sequence) (setup : Setup) (events : List Event) (world : World) : Type 0 where
  pub holds : Holds items world
  pub executed : AreExecuted events world
  pub accounts : IsAccounted items events world
  pub replicas : (r : ℕ) → r < setup.nodes → is_up r world ≡ true → IsReplica items r world
  pub in_time : IsInTime items setup events world

-- Every past is explained by what was taken in it, in order.
pub record NodesLaw : Type 0 where
  pub explained : (setup : Setup) (events : List Event) (world : World) → IsPast setup events world → Explains (sequence_of world) setup events world
