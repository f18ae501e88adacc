-- A server of several nodes (Calciu et al. 2017): what each node keeps, and what was taken from the jobs that wait.
pub mod Steps
pub mod Pasts
pub mod Explained
pub mod Settling
use Rattle.std.specs.Prelude.{ℕ, Bool, true, false, Option, None, List, [], length, map, filter, flat_map, slice_index_or, slice_set, replicate, ◌++◌, ◌∷◌, ◌==◌, cond, suc, zero}
use Rattle.nr_model.specs.Bytes.{Bytes}
use Rattle.nr_model.specs.Items.{Connection, Sequence}
use Rattle.nr_model.specs.Modes.{Mode, plain}
use Rattle.nr_model.specs.Servers as servers
use Rattle.nr_model.specs.Entries.{Jobs, entry_items}
use Rattle.nr_model.specs.Queues.{Queue}
use Rattle.nr_model.specs.Connections.{Setup, Feeding, Closing}

-- A connection of a node: the worker that serves it, the bytes behind its last whole request, the mode that its requests left, the number of its
-- next job, whether its bytes asked for its end, whether it was closed; the number of the first of its jobs that a fall of its node dropped, if one was
-- dropped; whether its node fell while its queue wasn't cut; and what waits for it
pub record Client : Type 0 where
  pub worker : ℕ
  pub rest : Bytes
  pub mode : Mode
  pub next : ℕ
  pub ended : Bool
  pub closed : Bool
  pub lost : Option ℕ
  pub fell : Bool
  pub queue : Queue

abbrev pub fresh_client : ℕ → ℕ → Connection → Client
fresh_client limit worker c =
    record {
      worker = worker;
      rest = [];
      mode = plain;
      next = 0;
      ended = false;
      closed = false;
      lost = None;
      fell = false;
      queue = record { connection = c; waiting = []; handed = 0; limit = limit; cut = false };
    }

-- A worker's slot: nothing; a batch that its node hasn't lifted; one that it has, with how many of its jobs are neither applied nor run; or the
-- answer, which says whether all were executed. Else the node is down.
pub data Slot : Type 0 where
  Empty : Slot
  Posted : Jobs → Slot
  Lifted : ℕ → Slot
  Answered : Bool → Slot

-- a worker: the jobs of its connections that it hasn't posted, how many batches it has posted, and its slot
pub record Worker : Type 0 where
  pub pending : Jobs
  pub batches : ℕ
  pub slot : Slot

-- A node: its connections by serial, its workers, the jobs that it has lifted and neither reserved an entry for nor run, the number of the entry
-- that it reserved last and, for each node, whether the cell of that entry isn't filled yet, how many entries it has applied, how many passed, whether
-- it holds one that it has fetched, its replica of the server, whether it is down, and whether the next entry that it applies is refused; and, when it
-- came back last, how many connections it had, which are those from before, and how many entries were reserved. Both are 0 until it comes back.
pub record Node : Type 0 where
  pub clients : List Client
  pub workers : List Worker
  pub waiting : Jobs
  pub at : ℕ
  pub unfilled : List Bool
  pub applied : ℕ
  pub passed : ℕ
  pub fetched : Bool
  pub server : servers.Server
  pub down : Bool
  pub refused : Bool
  pub since : ℕ
  pub resumed : ℕ

-- what was taken from the jobs that wait: those of a node's entry, when it was reserved, or the reads that a node ran behind so many entries
pub data Taken : Type 0 where
  Entry : ℕ → Jobs → Taken
  Reads : ℕ → ℕ → Jobs → Taken

-- a batch that a worker posted, with its number among that worker's batches
pub record Batch : Type 0 where
  pub node : ℕ
  pub worker : ℕ
  pub number : ℕ
  pub jobs : Jobs

-- the nodes, what was taken in order, the bytes fed, the connections closed, and the batches posted
pub record World : Type 0 where
  pub nodes : List Node
  pub taken : List Taken
  pub fed : List Feeding
  pub closed : List Closing
  pub batches : List Batch

abbrev pub fresh_worker : Worker
fresh_worker = record { pending = []; batches = 0; slot = Empty }

abbrev pub fresh_node : Setup → Node
fresh_node setup =
    record {
      clients = [];
      workers = replicate setup.workers fresh_worker;
      waiting = [];
      at = 0;
      unfilled = replicate setup.nodes false;
      applied = 0;
      passed = 0;
      fetched = false;
      server = servers.fresh;
      down = false;
      refused = false;
      since = 0;
      resumed = 0;
    }

abbrev pub fresh : Setup → World
fresh setup = record { nodes = replicate setup.nodes (fresh_node setup); taken = []; fed = []; closed = []; batches = [] }

-- a node, a worker and a connection by number; what there is none of has nothing
abbrev pub no_node : Node
no_node = fresh_node (record { nodes = 0; places = 0; workers = 0; connections = 0; queue_limit = 0 })

abbrev pub node_at : ℕ → World → Node
node_at n world = slice_index_or world.nodes n no_node

abbrev pub worker_at : ℕ → Node → Worker
worker_at w node = slice_index_or node.workers w fresh_worker

abbrev pub client_at : ℕ → Node → Client
client_at serial node = slice_index_or node.clients serial (fresh_client 0 0 (record { node = 0; serial = 0 }))

abbrev pub client_of : Connection → World → Client
client_of c world = client_at c.serial (node_at c.node world)

-- with another in its place
abbrev pub with_node : ℕ → Node → World → World
with_node n node world = record world { nodes = slice_set world.nodes n node }

abbrev pub with_worker : ℕ → Worker → Node → Node
with_worker w worker node = record node { workers = slice_set node.workers w worker }

abbrev pub with_client : ℕ → Client → Node → Node
with_client serial client node = record node { clients = slice_set node.clients serial client }

-- an entry of the operation log: the node that reserved it, and its jobs
pub record Logged : Type 0 where
  pub node : ℕ
  pub jobs : Jobs

-- the operation log: all entries that were reserved, by number
abbrev pub log_of : List Taken → List Logged
log_of [] = []
log_of (Entry node jobs ∷ more) = record { node = node; jobs = jobs } ∷ log_of more
log_of (Reads node count jobs ∷ more) = log_of more

abbrev pub logged_at : ℕ → World → Logged
logged_at x world = slice_index_or (log_of world.taken) x (record { node = 0; jobs = [] })

-- how many entries were reserved
abbrev pub tail_of : World → ℕ
tail_of world = length (log_of world.taken)

-- one sequence: what was taken, in order, an entry's jobs at its moment and each read at its own
abbrev pub items_taken : Taken → Sequence
items_taken (Entry node jobs) = entry_items jobs
items_taken (Reads node count jobs) = jobs

abbrev pub jobs_taken : Taken → Jobs
jobs_taken (Entry node jobs) = jobs
jobs_taken (Reads node count jobs) = jobs

abbrev pub sequence_of : World → Sequence
sequence_of world = flat_map items_taken world.taken

-- a node's part of it, where it has applied so many entries: those entries, and the reads that it ran itself
abbrev pub part_from : ℕ → ℕ → List Taken → Sequence
part_from r applied [] = []
part_from r zero (Entry node jobs ∷ more) = part_from r zero more
part_from r (suc applied) (Entry node jobs ∷ more) = entry_items jobs ++ part_from r applied more
part_from r applied (Reads node count jobs ∷ more) = let rest = part_from r applied more in cond (node == r) (jobs ++ rest) rest

abbrev pub part_of : ℕ → World → Sequence
part_of r world = part_from r (node_at r world).applied world.taken
