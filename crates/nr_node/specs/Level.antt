-- What a node keeps, and how its replica agrees with its end of the operation log.
use Rattle.std.specs.Prelude.{◌≡◌, ℕ, ◌<◌, ◌≤◌, Bool, false, List, [], ◌++◌, length, map, drop, None, slice_index_or, refl}
use Rattle.std.specs.List.{AllByRecursion, range_with_len}
use Rattle.std.specs.FinMap as finmap
use Rattle.std.specs.Coded.{Coded, code_by, coded×, coded_list}
use Rattle.nr_model.specs.Bytes.{Bytes, IsBeginningOf}
use Rattle.nr_model.specs.Items.{Item, is_update}
use Rattle.nr_model.specs.Sequential.{emitted_for}
use Rattle.nr_model.specs.Servers.{fresh, after_all}
use Rattle.nr_model.specs.Entries.{Jobs}
use Rattle.nr_model.specs.Queues.{Queue}
use Rattle.nr_entry.specs.Jobs.{item_of, items_of}
use Rattle.nr_entry.specs.declared.entry.Entry.{Entry}
use Rattle.nr_entry.specs.declared.job.Job.{Job}
use Rattle.nr_entry.specs.contracts.job.Job as of_job
pub use Rattle.nr_log_end.specs.Numbers.{connection_at}
use Rattle.nr_log_end.specs.declared.standing.Standing.{Standing}
pub use Rattle.nr_log_end.specs.Standings.{unpassed, jobs_reserved, logged}
use Rattle.nr_log_end.specs.Standings.{applied_of, opened_of, ran_of, record_of, passed_of, own_entries, EachRises}
use Rattle.nr_oplog.specs.declared.view.LogView.{LogView}
use Rattle.nr_oplog.specs.contracts.view.LogView as of_view
use Rattle.nr_job_numbers.specs.Stored.{numbers_in}
use Rattle.nr_job_numbers.specs.Book.{Book, coded_book, HasTaken}
use Rattle.nr_replica.specs.Members.{Member, fresh_member, AreNumbered}
use Rattle.nr_replica.specs.Replicas.{ReplicaState, coded_replica}

-- the end of the log, the replica, the accounts, and the jobs of the entry that was taken from those that wait and isn't reserved
pub record NodeState : Type 0 where
  pub seat : LogView
  pub replica : ReplicaState
  pub book : Book
  pub next : List Job

abbrev pub coded_node : Coded NodeState
coded_node =
    code_by (LogView × (ReplicaState × (Book × List Job))) (coded× of_view.the_row.coded (coded× coded_replica (coded× coded_book (coded_list of_job.the_row.coded))))
    (λ n. (n.seat, (n.replica, (n.book, n.next)))) (λ p. record { seat = p.0; replica = p.1.0; book = p.1.1.0; next = p.1.1.1 }) (λ _. refl)

-- the numbers 0, 1, 2 and so on
abbrev pub IsCount : List ℕ → Type 0
IsCount numbers = numbers ≡ range_with_len 0 (length numbers)

-- what waits for it
abbrev pub queue_at : ℕ → List Member → Queue
queue_at serial members = (slice_index_or members serial (fresh_member (connection_at 0 0) 0 0)).outbox

-- whether it was closed
abbrev pub is_closed_at : ℕ → List Member → Bool
is_closed_at serial members = (slice_index_or members serial (fresh_member (connection_at 0 0) 0 0)).is_closed

-- what a node has logged, and behind that the jobs that it has still to reserve or to run
abbrev pub all_jobs : Standing → List Job → List Job → Jobs
all_jobs s next waiting = logged s ++ (items_of next ++ items_of waiting)

-- what waits begins what was emitted behind what was handed out
pub record IsBehind (queue : Queue) (emitted : Bytes) : Type 0 where
  pub handed : queue.handed ≤ length emitted
  pub begins : IsBeginningOf queue.waiting (drop queue.handed emitted)

-- which worker serves it
abbrev pub worker_at : ℕ → List Member → ℕ
worker_at serial members = (slice_index_or members serial (fresh_member (connection_at 0 0) 0 0)).worker

-- what a record emits for a connection of the node
abbrev pub emitted_to : Standing → ℕ → Bytes
emitted_to s serial = emitted_for (connection_at s.node serial) (record_of s.history)

-- it is all of that, unless the queue is cut
abbrev pub IsWhole : Queue → Bytes → Type 0
IsWhole queue emitted = queue.cut ≡ false → queue.waiting ≡ drop queue.handed emitted

-- which workers serve its connections, by their serials
abbrev pub workers_of : List Member → List ℕ
workers_of members = map (λ (member : Member). member.worker) members

-- A replica stands where its end of the log does, and has the connections that were opened there. One that is up is the server after the record. What waits for
-- a connection begins what the record emits for it behind what was handed out; it is all of that where the replica is up and the queue isn't cut.
pub record IsLevel (s : Standing) (replica : ReplicaState) : Type 0 where
  pub node : s.node ≡ replica.node
  pub named : AreNumbered replica.node 0 replica.members
  pub opened : workers_of replica.members ≡ opened_of s.history
  pub server : replica.down ≡ false → replica.server ≡ after_all fresh (record_of s.history)
  pub applied : replica.down ≡ false → replica.applied ≡ passed_of s
  pub behind : (serial : ℕ) → serial < length replica.members → IsBehind (queue_at serial replica.members) (emitted_to s serial)
  pub whole : replica.down ≡ false → (serial : ℕ) → serial < length replica.members → IsWhole (queue_at serial replica.members) (emitted_to s serial)

-- a read of a connection of the node
abbrev pub IsReadOf : ℕ → Item → Type 0
IsReadOf node job = (job.connection.node ≡ node) × (is_update job.deed ≡ false)

-- The jobs of each connection of the node in the record, and behind it in the entries that it reserved, have the numbers 0, 1, 2 and so on, in this order. So do
-- these with those that go on waiting, and they are all that were taken, whether the replica is up or down. There are none of a connection that wasn't opened.
-- What the node ran by itself are reads of its connections. The numbers of each connection's jobs rise along the entries that it passed. All numbers that were
-- reserved are below the tail that was met.
pub record IsInOrder (s : Standing) (replica : ReplicaState) (book : Book) (next : List Job) : Type 0 where
  pub book_is : book.node ≡ s.node
  pub own : AllByRecursion (λ (job : Item). job.connection.node ≡ s.node) (items_of replica.waiting)
  pub numbered : (serial : ℕ) → IsCount (numbers_in (connection_at s.node serial) (logged s))
  pub taken : HasTaken book (all_jobs s next replica.waiting)
  pub unopened : (serial : ℕ) → length replica.members ≤ serial → numbers_in (connection_at s.node serial) (all_jobs s next replica.waiting) ≡ []
  pub closed : (serial : ℕ) → length replica.members ≤ serial → finmap.get book.held serial ≡ None
  pub reads : AllByRecursion (λ (r : Job × ℕ). IsReadOf s.node (item_of r.0)) (ran_of s.history)
  pub entries : EachRises (applied_of s.history)
  pub passed : length (own_entries s.node (applied_of s.history)) ≤ length s.reservations
  pub met : AllByRecursion (λ (r : ℕ × Entry). r.0 < s.seen) s.reservations
