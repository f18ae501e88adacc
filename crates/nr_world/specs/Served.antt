-- A node as the definitions see it, and what each step does to that of one node.
use Rattle.std.specs.Prelude.{ℕ, true, false, not, ◌||◌, cond, List, [], ◌∷◌, ◌++◌, length, map, replicate, slice_set, Option}
use Rattle.nr_model.specs.Entries.{left_by_entry}
use Rattle.nr_model.specs.Nodes as nodes
use Rattle.nr_model.specs.Nodes.Steps.{posted_worker, Refused, passing, falls_at, dropped_jobs, fallen_client, fallen, with_entry}
use Rattle.nr_entry.specs.declared.entry.Entry.{Entry}
use Rattle.nr_session.specs.SessionState.{SessionState}
use Rattle.nr_entry.specs.Jobs.{items_of}
use Rattle.nr_replica.specs.Members.{Member}
use Rattle.nr_world.specs.declared.worker.WorldWorker.{WorldWorker}
use Rattle.nr_world.specs.declared.node.WorldNode.{WorldNode}
use Rattle.nr_world.specs.Workers.{worker_seen}

-- two lists side by side
abbrev pub both : {A B C : Type 0} → (A → B → C) → List A → List B → List C
both f [] ys = []
both f (x ∷ xs) [] = []
both f (x ∷ xs) (y ∷ ys) = f x y ∷ both f xs ys

-- a connection is its session and its member
abbrev pub client_seen : SessionState → Member → nodes.Client
client_seen session member =
    record {
      worker = member.worker;
      rest = cond session.ended [] session.rest;
      mode = session.mode;
      next = session.next;
      ended = session.gave_end;
      closed = member.is_closed;
      lost = session.lost;
      fell = session.fell;
      queue = member.outbox;
    }

abbrev pub clients_seen : List SessionState → List Member → List nodes.Client
clients_seen sessions members = both client_seen sessions members

abbrev pub workers_seen : List WorldWorker → List (Option ℕ) → List nodes.Worker
workers_seen workers owed = both worker_seen workers owed

abbrev pub node_seen : WorldNode → nodes.Node
node_seen node =
    record {
      clients = clients_seen node.sessions node.replica.members;
      workers = workers_seen node.workers.items node.replica.owed;
      waiting = items_of node.replica.waiting;
      at = node.at;
      unfilled = node.unfilled.items;
      applied = node.replica.applied;
      passed = node.passed;
      fetched = node.is_fetched;
      server = node.replica.server;
      down = node.replica.down;
      refused = node.replica.refused;
      since = node.since;
      resumed = node.resumed;
    }

-- a connection more
abbrev pub opened_node : ℕ → ℕ → ℕ → nodes.Node → nodes.Node
opened_node limit n w node =
    record node { clients = node.clients ++ nodes.fresh_client limit w (record { node = n; serial = length node.clients }) ∷ [] }

-- a worker posts a batch
abbrev pub posted_node : ℕ → nodes.Node → nodes.Node
posted_node w node = nodes.with_worker w (posted_worker (nodes.worker_at w node)) node

-- its entry is reserved, at the tail
abbrev pub reserved_node : ℕ → ℕ → nodes.Node → nodes.Node
reserved_node count tail node = record node { waiting = left_by_entry node.waiting; at = tail; unfilled = replicate count true }

abbrev pub filled_node : ℕ → nodes.Node → nodes.Node
filled_node t node = record node { unfilled = slice_set node.unfilled t false }

abbrev pub fetched_node : nodes.Node → nodes.Node
fetched_node node = record node { fetched = true }

-- a worker's batch is answered
abbrev pub answered_node : ℕ → nodes.Node → nodes.Node
answered_node w node = nodes.with_worker w (record (nodes.worker_at w node) { slot = nodes.Answered (not node.down) }) node

abbrev pub refused_node : nodes.Node → nodes.Node
refused_node node = record node { refused = true }

-- the next entry: applied, or refused, or dropped by a node that is down; in any case passed
abbrev pub applied_node : Refused → ℕ → nodes.Logged → nodes.Node → nodes.Node
applied_node refused n entry node =
    passing (cond node.down node
    (cond (node.refused || falls_at refused.falls node.passed) (fallen node) (with_entry refused.cuts n entry node)))

-- its jobs are dropped, those that it has lifted and those at its workers, and its connections note it
abbrev pub dropped_node : nodes.Node → nodes.Node
dropped_node node =
    record node {
      clients = map (fallen_client (dropped_jobs node)) node.clients;
      workers = map (λ (worker : nodes.Worker). record worker { pending = [] }) node.workers;
      waiting = [];
    }

-- an entry as the definitions see it
abbrev pub entry_seen : Entry → nodes.Logged
entry_seen entry = record { node = entry.node; jobs = items_of entry.jobs.items }
