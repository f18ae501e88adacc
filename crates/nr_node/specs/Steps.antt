-- What the calls of a node come to.
use Rattle.std.specs.Prelude.{◌≡◌, ◌≢◌, ◌⊎◌, ℕ, Bool, ◌≤◌, ◌+◌, ◌-◌, true, false, cond, List, [], ◌∷◌, ◌++◌, map, length, slice_set, slice_index_or, replicate, Some, None}
use Rattle.std.specs.FinMap as finmap
use Rattle.nr_model.specs.Servers.{fresh}
use Rattle.nr_model.specs.Entries.{read_jobs, left_by_reads}
use Rattle.nr_entry.specs.Jobs.{items_of}
use Rattle.nr_entry.specs.Shares.{shares_of}
use Rattle.nr_entry.specs.Waiting.{has_some}
use Rattle.nr_entry.specs.declared.batch.Batch.{Batch}
use Rattle.nr_entry.specs.declared.entry.Entry.{Entry}
use Rattle.nr_entry.specs.declared.job.Job.{Job}
use Rattle.nr_log_end.specs.declared.standing.Load.{Load}
use Rattle.nr_log_end.specs.declared.standing.Load.TheVariants.{Tail}
use Rattle.nr_log_end.specs.declared.standing.LogEvent.TheVariants.{Applied, Ran}
use Rattle.nr_log_end.specs.Standings.{opened_with, passed_of, record_of}
use Rattle.nr_oplog.specs.declared.view.LogView.{LogView}
use Rattle.nr_job_numbers.specs.Account.{fresh_account}
use Rattle.nr_job_numbers.specs.Book.{with_batch, without_ended}
use Rattle.nr_replica.specs.Members.{Member, fresh_member, closed_member, handed_member}
use Rattle.nr_replica.specs.declared.fall.Fall.TheVariants.{Refused}
use Rattle.nr_node.specs.Level.{NodeState, connection_at, unpassed, jobs_reserved}
use Rattle.nr_node.specs.Owing.{awaited}
use Rattle.nr_node.specs.Advanced.{HaveGot, HasClosed, HasLost, jobs_of_own, jobs_of_all}
use Rattle.nr_node.specs.Reserved.{due_jobs, left_jobs, LeavesWaiting, HasMet, IsReserved}

abbrev pub nobody : Member
nobody = fresh_member (connection_at 0 0) 0 0

-- one that has done nothing yet
abbrev pub fresh_node : LogView → ℕ → ℕ → NodeState
fresh_node seat node workers =
    record {
      seat = seat;
      replica = record { node = node; members = []; owed = replicate workers None; waiting = []; applied = 0; server = fresh; down = false; refused = false; fell = None; lent = false };
      book = record { node = node; held = finmap.empty; last = replicate workers None };
      next = [];
    }

-- a connection more
abbrev pub opened_node : ℕ → ℕ → NodeState → NodeState
opened_node limit worker n =
    record n {
      replica = record n.replica { members = n.replica.members ++ fresh_member (connection_at n.replica.node (length n.replica.members)) worker limit ∷ [] };
      book = record n.book { held = finmap.insert n.book.held (length n.replica.members) (fresh_account worker) };
    }

-- so one was opened, and it is noted at the end of the log which worker serves it, by one load of the tail
pub record HasOpened (limit worker : ℕ) (n m : NodeState) : Type 0 where
  pub opened : m ≡ record (opened_node limit worker n) { seat = m.seat }
  pub noted : m.seat.standing ≡ opened_with worker m.seat.standing.seen n.seat.standing
  pub seen : n.seat.standing.seen ≤ m.seat.standing.seen
  pub looks : m.seat.looks ≡ n.seat.looks ++ Tail m.seat.standing.seen ∷ []

-- one was closed
abbrev pub closed_node : ℕ → NodeState → NodeState
closed_node serial n =
    record n { replica = record n.replica { members = slice_set n.replica.members serial (closed_member (slice_index_or n.replica.members serial nobody)) } }

-- the next entry that it applies is refused, unless it is down
abbrev pub refusing_node : NodeState → NodeState
refusing_node n = cond n.replica.down n (record n { replica = record n.replica { refused = true } })

-- whether an entry is due
abbrev pub is_due : NodeState → Bool
is_due n = has_some (due_jobs n.next n.replica.waiting)

-- a batch was taken: its jobs wait behind the others
abbrev pub taken_node : Batch → NodeState → NodeState
taken_node batch n =
    record n {
      replica = record n.replica { waiting = n.replica.waiting ++ batch.jobs.items; owed = slice_set n.replica.owed batch.worker (Some (length batch.jobs.items)) };
      book = with_batch batch n.book;
    }

-- the jobs that are due, of which there are some, stand in the log under this number, behind those that the node has still to pass, and wait no more
pub record HasReserved (at : ℕ) (entry : Entry) (n m : NodeState) : Type 0 where
  pub due : due_jobs n.next n.replica.waiting ≢ []
  pub jobs : items_of entry.jobs.items ≡ due_jobs n.next n.replica.waiting
  pub node : entry.node ≡ n.replica.node
  pub reserved : IsReserved at (shares_of entry n.seat.standing.nodes) n.seat.standing m.seat.standing
  pub behind : jobs_reserved (unpassed m.seat.standing) ≡ jobs_reserved (unpassed n.seat.standing) ++ items_of entry.jobs.items
  pub next : m.next ≡ []
  pub left : LeavesWaiting (left_jobs n.next n.replica.waiting) n.replica m.replica
  pub book : m.book ≡ n.book

-- some are due, and go on waiting, in front of all others
pub record GoesOnWaiting (n m : NodeState) : Type 0 where
  pub due : due_jobs n.next n.replica.waiting ≢ []
  pub met : HasMet n.seat.standing m.seat.standing
  pub next : items_of m.next ≡ due_jobs n.next n.replica.waiting
  pub left : LeavesWaiting (left_jobs n.next n.replica.waiting) n.replica m.replica
  pub book : m.book ≡ n.book

-- none is due, and what waits goes on waiting
pub record HasNoneDue (n m : NodeState) : Type 0 where
  pub none : due_jobs n.next n.replica.waiting ≡ []
  pub left : LeavesWaiting (left_jobs n.next n.replica.waiting) n.replica m.replica
  pub same : m ≡ record n { replica = m.replica }

-- the tail was loaded in the call, and was so
abbrev pub HasLoaded : ℕ → List Load → List Load → Type 0
HasLoaded tail looks after = (more : List Load) × (after ≡ looks ++ (Tail tail ∷ more))

-- Entries were passed, and then reads were run, behind all that was in the record. The entries of the node's own among them are the first that it had reserved and
-- hadn't passed. The same workers wait for an answer. One entry at most is passed behind the tail that the call loaded. The account of each of its connections
-- whose end is among them goes, whether the node is up or down. Its replica goes down only where an entry was passed, for want of memory or since the entry was to be
-- refused: then what waited is dropped, and all keys, and the accounts go back by what is dropped, exactly. A replica that is down stays as it was.
pub record GoesOnBy (entries : List Entry) (ran : List Job) (tail : ℕ) (n m : NodeState) : Type 0 where
  pub standing : m.seat.standing ≡ record n.seat.standing { history = n.seat.standing.history ++ (map Applied entries ++ map Ran ran); seen = m.seat.standing.seen }
  pub own : jobs_reserved (unpassed n.seat.standing) ≡ jobs_of_own n.book.node entries ++ jobs_reserved (unpassed m.seat.standing)
  pub loaded : HasLoaded tail n.seat.looks m.seat.looks
  pub from : n.seat.standing.seen ≤ tail
  pub closed : HasClosed (record_of m.seat.standing.history) n.book m.book
  pub ended : m.replica.down ≡ n.replica.down → m.book ≡ without_ended (jobs_of_all entries) n.book
  pub lost : n.replica.down ≡ false → m.replica.down ≡ true → HasLost entries (items_of n.next ++ items_of n.replica.waiting) n.book m.book
  pub owed : awaited m.replica.owed ≡ awaited n.replica.owed
  pub got : HaveGot n.replica.members m.replica.members
  pub refused : m.replica.down ≡ false → m.replica.refused ≡ n.replica.refused
  pub up : m.replica.down ≡ false → n.replica.down ≡ false
  pub few : length entries ≤ (tail - passed_of n.seat.standing) + 1
  pub fell : n.replica.down ≡ false → m.replica.down ≡ true → (entries ≢ []) × (m.replica.waiting ≡ []) × (m.next ≡ []) × (m.replica.server ≡ fresh)
  pub cause : n.replica.down ≡ false → m.replica.down ≡ true → m.replica.fell ≡ Some Refused → n.replica.refused ≡ true
  pub still : n.replica.down ≡ true → m.replica ≡ n.replica
  pub dropped : n.replica.down ≡ true → (m.next ≡ []) ⊎ (m.next ≡ n.next)

-- all entries that there were when the call loaded the tail are passed, the node's own among them; the reads that led were run, and no entry of the node was due
-- before them
pub record HasRead (ran : List Job) (tail : ℕ) (n m : NodeState) : Type 0 where
  pub up : m.replica.down ≡ false
  pub passed : tail ≤ passed_of m.seat.standing
  pub own : jobs_reserved (unpassed m.seat.standing) ≡ []
  pub ran_is : items_of ran ≡ read_jobs (items_of n.replica.waiting)
  pub left : items_of m.replica.waiting ≡ left_by_reads (items_of n.replica.waiting)
  pub next : (n.next ≡ []) × (m.next ≡ [])

-- the end of the log knows no more, and nothing else changed
pub record IsStill (n m : NodeState) : Type 0 where
  pub standing : m.seat.standing ≡ n.seat.standing
  pub looks : m.seat.looks ≡ n.seat.looks
  pub replica : m.replica ≡ n.replica
  pub book : m.book ≡ n.book
  pub next : m.next ≡ n.next

-- so many bytes were handed out
pub record HasHandedOut (serial most : ℕ) (n m : NodeState) : Type 0 where
  pub replica : m.replica ≡ record n.replica { members = slice_set n.replica.members serial (handed_member most (slice_index_or n.replica.members serial nobody)) }
  pub standing : m.seat.standing ≡ n.seat.standing
  pub looks : m.seat.looks ≡ n.seat.looks
  pub book : m.book ≡ n.book
  pub next : m.next ≡ n.next
