-- The steps of a server of several nodes: when each is enabled, and what it does. Of each kind it is one atomic step of the core.
use Rattle.std.specs.Prelude.{ℕ, zero, suc, ◌+◌, ◌-◌, Bool, true, false, not, ◌&&◌, ◌||◌, ◌==◌, nat_lt, nat_le, cond, List, [], ◌∷◌, ◌++◌, length, map, take, drop, filter, slice_index_or, slice_set, replicate, flat_map, Option, Some, None, is_some, option_to_list}
use Rattle.std.specs.List.{list_any, list_all}
use Rattle.nr_model.specs.Bytes.{Bytes}
use Rattle.nr_model.specs.Requests.{framing_of}
use Rattle.nr_model.specs.Replies.{reply_text}
use Rattle.nr_model.specs.Keyspace.{moment}
use Rattle.nr_model.specs.Commands.{served}
use Rattle.nr_model.specs.Items.{Connection, same_connection, End, Item}
use Rattle.nr_model.specs.Modes.{Conversation, framed_conversation, plain}
use Rattle.nr_model.specs.Sequential.Events.{Emission}
use Rattle.nr_model.specs.Servers.{Server, fresh, after_all, emitted_all}
use Rattle.nr_model.specs.Entries.{Jobs, entry_jobs, left_by_entry, read_jobs, left_by_reads, entry_items}
use Rattle.nr_model.specs.declared.reason.Reason.{Reason}
use Rattle.nr_model.specs.declared.reason.Reason.TheVariants.{NoSuch, Ended, TooMany, Down, Busy, Nothing, Full, NotYet, NoMemory}
use Rattle.nr_model.specs.Queues.{received, cut_off, closed_queue}
use Rattle.nr_model.specs.Connections.{Setup, Handed, is_some_bytes}
use Rattle.nr_model.specs.Asked.{jobs_from, own_jobs, close_number, first_number}
use Rattle.nr_model.specs.Nodes.{Client, fresh_client, Slot, Empty, Posted, Lifted, Answered, Worker, Node, Entry, Reads, Logged, World, node_at, worker_at, client_at, client_of, with_node, with_worker, with_client, log_of, logged_at, tail_of}

pub data Step : Type 0 where
  -- a connection at a worker of a node
  Open : ℕ → ℕ → Step
  -- bytes of a connection, at a moment
  Feed : Connection → ℕ → Bytes → Step
  -- a worker of a node posts a batch of the jobs of its connections; the node lifts it
  Post : ℕ → ℕ → Step
  Lift : ℕ → ℕ → Step
  -- a node reserves an entry for the updates that lead; it fills another node's cell of it
  Reserve : ℕ → Step
  Fill : ℕ → ℕ → Step
  -- a node fetches its next entry; it applies and passes it
  Fetch : ℕ → Step
  Apply : ℕ → Step
  -- a node applies all that was reserved, and runs the reads that lead
  Look : ℕ → Step
  -- a node answers a worker's batch; the worker takes the answer, and what waits for its connections
  Answer : ℕ → ℕ → Step
  Collect : ℕ → ℕ → Step
  -- a connection is closed, at a moment
  Close : Connection → ℕ → Step
  -- the next entry that the node applies is refused for want of memory
  Refuse : ℕ → Step
  -- a node that is down comes back with a copy of another node's server
  Revive : ℕ → ℕ → Step

pub data Outcome : Type 0 where
  Opened : Connection → Outcome
  Done : Outcome
  Idle : Reason → Outcome

-- memory was refused for a queue: the connection, which entry's emissions (or, behind all entries, the reads'), and how many of its replies and
-- messages had come before
pub record Cut : Type 0 where
  pub connection : Connection
  pub entry : ℕ
  pub after : ℕ

-- what was refused for memory in a step: the application of an entry, by which the node falls, the growth of queues, and the copy of a server
pub record Refused : Type 0 where
  pub falls : Option ℕ
  pub cuts : List Cut
  pub copy : Bool

abbrev pub nothing_refused : Refused
nothing_refused = record { falls = None; cuts = []; copy = false }

-- the first reason that holds, else what follows
abbrev pub idle_where : Bool → Reason → Outcome → Outcome
idle_where holds reason otherwise = cond holds (Idle reason) otherwise

abbrev pub is_node : Setup → ℕ → Bool
is_node setup n = nat_lt n setup.nodes

abbrev pub is_worker : Setup → ℕ → ℕ → Bool
is_worker setup n w = nat_lt n setup.nodes && nat_lt w setup.workers

abbrev pub is_client : World → Connection → Bool
is_client world c = nat_lt c.node (length world.nodes) && nat_lt c.serial (length (node_at c.node world).clients)

-- how many connections of a node are in use
abbrev pub in_use : Node → ℕ
in_use node = length (filter (λ client. not client.closed) node.clients)

abbrev pub is_empty : Jobs → Bool
is_empty jobs = length jobs == 0

abbrev pub is_free : Slot → Bool
is_free Empty = true
is_free _ = false

abbrev pub is_posted : Slot → Bool
is_posted (Posted jobs) = true
is_posted _ = false

abbrev pub is_lifted : Slot → Bool
is_lifted (Lifted owed) = true
is_lifted _ = false

abbrev pub is_answered : Slot → Bool
is_answered (Answered executed) = true
is_answered _ = false

-- so many jobs of a lifted batch are neither applied nor run
abbrev pub owed_in : Slot → ℕ
owed_in (Lifted owed) = owed
owed_in _ = 0

abbrev pub is_true : Bool → Bool
is_true b = b

-- the next entry finds a place that every node has passed
abbrev pub has_place : Setup → World → Bool
has_place setup world = list_all (λ node. nat_lt (tail_of world) (node.passed + setup.places)) world.nodes

-- a node's cell of an entry is filled, and so are its cells of so many entries from that one on
abbrev pub is_filled : World → ℕ → ℕ → Bool
is_filled world n x = let by = node_at (logged_at x world).node world in not (by.at == x && slice_index_or by.unfilled n false)

abbrev pub are_filled : World → ℕ → ℕ → ℕ → Bool
are_filled world n x zero = true
are_filled world n x (suc count) = is_filled world n x && are_filled world n (suc x) count

-- the number of the first entry that a node hasn't fetched
abbrev pub next_fetch : Node → ℕ
next_fetch node = cond node.fetched (suc node.passed) node.passed

-- a queue was cut while its node was up, before it ever fell: by its limit, or because memory was refused for it
abbrev pub is_overrun : Client → Bool
is_overrun client = client.queue.cut && not client.fell

-- a worker's batch was posted, or lifted, and isn't answered
abbrev pub has_batch : Worker → Bool
has_batch worker = is_posted worker.slot || is_lifted worker.slot

-- a node has begun what isn't done: an entry that it has fetched or has to fill, or a worker's batch
abbrev pub is_busy : Node → Bool
is_busy node = node.fetched || (list_any is_true node.unfilled || list_any has_batch node.workers)

-- what a collect hands out: the bytes that wait for each connection of a worker
abbrev pub collected : ℕ → List Client → List Handed
collected w [] = []
collected w (client ∷ clients) =
    let more = collected w clients in
    cond (client.worker == w && is_some_bytes client.queue.waiting) (record { connection = client.queue.connection; bytes = client.queue.waiting } ∷ more) more

-- the outcome of a step
abbrev pub outcome : Setup → World → Step → Outcome
outcome setup world (Open n w) =
    let node = node_at n world in
    idle_where (not (is_worker setup n w)) NoSuch
    (idle_where (nat_le setup.connections (in_use node)) TooMany
    (idle_where node.down Down (Opened (record { node = n; serial = length node.clients }))))
outcome setup world (Feed c time bytes) =
    let client = client_of c world in
    idle_where (not (is_client world c)) NoSuch
    (idle_where (client.ended || (client.closed || is_overrun client)) Ended
    (idle_where (node_at c.node world).down Down (idle_where client.queue.cut Ended Done)))
outcome setup world (Post n w) =
    let node = node_at n world in
    let worker = worker_at w node in
    idle_where (not (is_worker setup n w)) NoSuch
    (idle_where node.down Down (idle_where (not (is_free worker.slot)) Busy (idle_where (is_empty worker.pending) Nothing Done)))
outcome setup world (Lift n w) =
    let node = node_at n world in
    idle_where (not (is_worker setup n w)) NoSuch
    (idle_where node.down Down (idle_where (not (is_posted (worker_at w node).slot)) Nothing Done))
outcome setup world (Reserve n) =
    let node = node_at n world in
    idle_where (not (is_node setup n)) NoSuch
    (idle_where node.down Down
    (idle_where (list_any is_true node.unfilled) Busy
    (idle_where (is_empty (entry_jobs node.waiting)) Nothing (idle_where (not (has_place setup world)) Full Done))))
outcome setup world (Fill n t) =
    idle_where (not (is_node setup n && is_node setup t)) NoSuch
    (idle_where (not (slice_index_or (node_at n world).unfilled t false)) Nothing Done)
outcome setup world (Fetch n) =
    let node = node_at n world in
    idle_where (not (is_node setup n)) NoSuch
    (idle_where node.fetched Busy
    (idle_where (node.passed == tail_of world) Nothing (idle_where (not (is_filled world n node.passed)) NotYet Done)))
outcome setup world (Apply n) =
    idle_where (not (is_node setup n)) NoSuch (idle_where (not (node_at n world).fetched) Nothing Done)
outcome setup world (Look n) =
    let node = node_at n world in
    idle_where (not (is_node setup n)) NoSuch
    (idle_where node.down Down
    (idle_where (is_empty (read_jobs node.waiting)) Nothing
    (idle_where (not (are_filled world n (next_fetch node) (tail_of world - next_fetch node))) NotYet Done)))
outcome setup world (Answer n w) =
    let node = node_at n world in
    let slot = (worker_at w node).slot in
    idle_where (not (is_worker setup n w)) NoSuch
    (idle_where (not (is_lifted slot || (node.down && is_posted slot))) Nothing
    (idle_where (not node.down && not (owed_in slot == 0)) NotYet Done))
outcome setup world (Collect n w) =
    let node = node_at n world in
    idle_where (not (is_worker setup n w)) NoSuch
    (idle_where (not (is_answered (worker_at w node).slot) && length (collected w node.clients) == 0) Nothing Done)
outcome setup world (Close c time) =
    idle_where (not (is_client world c)) NoSuch
    (idle_where (client_of c world).closed Ended (idle_where (node_at c.node world).down Down Done))
outcome setup world (Refuse n) = idle_where (not (is_node setup n)) NoSuch (idle_where (node_at n world).down Down Done)
outcome setup world (Revive n f) =
    let node = node_at n world in
    let donor = node_at f world in
    idle_where (not (is_node setup n && is_node setup f)) NoSuch
    (idle_where donor.down Down
    (idle_where (is_busy node) Busy
    (idle_where (not node.down) Nothing (idle_where (not (node.passed == donor.passed)) NotYet Done))))

-- What a step came to, where this was refused: a node that would come back stays down where memory is refused for the copy.
abbrev pub with_copy : Refused → Outcome → Outcome
with_copy refused (Opened c) = Opened c
with_copy refused Done = cond refused.copy (Idle NoMemory) Done
with_copy refused (Idle reason) = Idle reason

abbrev pub came_to : Setup → World → Step → Refused → Outcome
came_to setup world (Revive n f) refused = with_copy refused (outcome setup world (Revive n f))
came_to setup world step refused = outcome setup world step

-- a connection more
abbrev pub opened : Setup → ℕ → ℕ → World → World
opened setup n w world =
    let node = node_at n world in
    let client = fresh_client setup.queue_limit w (record { node = n; serial = length node.clients }) in
    with_node n (record node { clients = node.clients ++ client ∷ [] }) world

-- the jobs wait at the worker, behind the others
abbrev pub with_pending : ℕ → Jobs → Node → Node
with_pending w jobs node = let worker = worker_at w node in with_worker w (record worker { pending = worker.pending ++ jobs }) node

-- what more bytes ask for, in the mode and behind the rest that the bytes before them left
abbrev pub asked_next : Client → Bytes → Conversation
asked_next client bytes = framed_conversation served client.mode (framing_of (client.rest ++ bytes))

abbrev pub fed_client : Client → Bytes → Client
fed_client client bytes =
    let conversation = asked_next client bytes in
    record client {
      rest = cond conversation.ended [] (framing_of (client.rest ++ bytes)).rest;
      mode = conversation.mode;
      next = client.next + length conversation.deeds;
      ended = conversation.ended;
    }

abbrev pub fed_node : Connection → ℕ → Bytes → Node → Node
fed_node c time bytes node =
    let client = client_at c.serial node in
    with_pending client.worker (jobs_from c client.next (moment time) (asked_next client bytes).deeds) (with_client c.serial (fed_client client bytes) node)

-- how many jobs a batch has at most
abbrev pub most_batch_jobs : ℕ
most_batch_jobs = 1024

abbrev pub posted_worker : Worker → Worker
posted_worker worker =
    record { pending = drop most_batch_jobs worker.pending; batches = worker.batches + 1; slot = Posted (take most_batch_jobs worker.pending) }

abbrev pub posted_jobs : Slot → Jobs
posted_jobs (Posted jobs) = jobs
posted_jobs _ = []

abbrev pub lifted_node : ℕ → Node → Node
lifted_node w node =
    let worker = worker_at w node in
    let jobs = posted_jobs worker.slot in
    record (with_worker w (record worker { slot = Lifted (length jobs) }) node) { waiting = node.waiting ++ jobs }

-- the number of the connection's cut in this entry's emissions, where there is one
abbrev pub cut_of : List Cut → ℕ → Connection → Option ℕ
cut_of [] entry c = None
cut_of (cut ∷ cuts) entry c = cond (same_connection cut.connection c && cut.entry == entry) (Some cut.after) (cut_of cuts entry c)

-- the replies and messages for a connection
abbrev pub texts_for : Connection → List Emission → List Bytes
texts_for c [] = []
texts_for c (e ∷ es) = let more = texts_for c es in cond (same_connection e.connection c) (reply_text e.reply ∷ more) more

abbrev pub delivered_to : List Cut → ℕ → List Emission → Client → Client
delivered_to cuts entry es client =
    record client { queue = received (cut_of cuts entry client.queue.connection) client.queue (texts_for client.queue.connection es) }

-- so many jobs of a lifted batch fewer are owed
abbrev pub owing_less : ℕ → Slot → Slot
owing_less n (Lifted owed) = Lifted (owed - n)
owing_less n slot = slot

abbrev pub jobs_of_worker : ℕ → List Client → Jobs → Jobs
jobs_of_worker w clients jobs = filter (λ job. (slice_index_or clients job.connection.serial (fresh_client 0 0 job.connection)).worker == w) jobs

abbrev pub executed_from : ℕ → List Client → Jobs → List Worker → List Worker
executed_from w clients jobs [] = []
executed_from w clients jobs (worker ∷ workers) =
    record worker { slot = owing_less (length (jobs_of_worker w clients jobs)) worker.slot } ∷ executed_from (suc w) clients jobs workers

-- jobs of the node's own connections were executed: its workers' batches owe them no more
abbrev pub with_executed : Jobs → Node → Node
with_executed jobs node = record node { workers = executed_from 0 node.clients jobs node.workers }

-- the entry is passed, and nothing is held
abbrev pub passing : Node → Node
passing node = record node { passed = suc node.passed; fetched = false }

-- what a node drops when it falls: the jobs that it has lifted, and those at its workers, posted and not posted
abbrev pub dropped_jobs : Node → Jobs
dropped_jobs node =
    node.waiting ++ (flat_map (λ (worker : Worker). posted_jobs worker.slot) node.workers ++ flat_map (λ (worker : Worker). worker.pending) node.workers)

-- What a fall leaves of a connection. Where it isn't closed, the first of its jobs that is dropped is noted; what was noted before stays.
abbrev pub fallen_client : Jobs → Client → Client
fallen_client dropped client =
    record client {
      lost = cond (client.closed || is_some client.lost) client.lost (first_number (own_jobs client.queue.connection dropped));
      fell = client.fell || not client.queue.cut;
    }

-- The node falls: what it has lifted and what waits at its workers is dropped, and its copy of the server is given up.
abbrev pub fallen : Node → Node
fallen node =
    record node {
      clients = map (fallen_client (dropped_jobs node)) node.clients;
      workers = map (λ (worker : Worker). record worker { pending = [] }) node.workers;
      waiting = [];
      server = fresh;
      down = true;
      refused = false;
    }

-- The jobs of the node's next entry are owed to its workers: the entry is its own, and was reserved since the node came back. An own one from before may
-- still lie ahead of the node when it comes back; its batch was refused, and it counts for no other.
abbrev pub is_owed : ℕ → Logged → Node → Bool
is_owed n entry node = nat_le node.resumed node.applied && entry.node == n

-- an entry is applied: the replica moves, its connections get what is emitted for them, and its own jobs are executed
abbrev pub with_entry : List Cut → ℕ → Logged → Node → Node
with_entry cuts n entry node =
    let items = entry_items entry.jobs in
    let done = cond (is_owed n entry node) (with_executed entry.jobs node) node in
    record done {
      applied = suc node.applied;
      server = after_all node.server items;
      clients = map (delivered_to cuts node.passed (emitted_all node.server items)) node.clients;
    }

abbrev pub falls_at : Option ℕ → ℕ → Bool
falls_at None x = false
falls_at (Some y) x = y == x

-- the next entry: applied, or refused, or dropped by a node that is down; in any case passed
abbrev pub advanced : Refused → ℕ → List Logged → Node → Node
advanced refused n log node =
    passing (cond node.down node
    (cond (node.refused || falls_at refused.falls node.passed) (fallen node)
    (with_entry refused.cuts n (slice_index_or log node.passed (record { node = 0; jobs = [] })) node)))

abbrev pub advanced_by : ℕ → Refused → ℕ → List Logged → Node → Node
advanced_by zero refused n log node = node
advanced_by (suc count) refused n log node = advanced_by count refused n log (advanced refused n log node)

-- the reads that lead are run: the replica stays as it is
abbrev pub with_reads : List Cut → ℕ → Node → Node
with_reads cuts tail node =
    let jobs = read_jobs node.waiting in
    record (with_executed jobs node) {
      waiting = left_by_reads node.waiting;
      clients = map (delivered_to cuts tail (emitted_all node.server jobs)) node.clients;
    }

-- A look: all entries that were reserved are applied; a node that falls by that runs nothing.
abbrev pub looked : Refused → ℕ → World → World
looked refused n world =
    let tail = tail_of world in
    let node = node_at n world in
    let ahead = advanced_by (tail - node.passed) refused n (log_of world.taken) node in
    cond ahead.down (with_node n ahead world)
    (record (with_node n (with_reads refused.cuts tail ahead) world) { taken = world.taken ++ Reads n ahead.applied (read_jobs ahead.waiting) ∷ [] })

-- a node's entry is reserved
abbrev pub reserved : Setup → ℕ → World → World
reserved setup n world =
    let node = node_at n world in
    record (with_node n (record node { waiting = left_by_entry node.waiting; at = tail_of world; unfilled = replicate setup.nodes true }) world) {
      taken = world.taken ++ Entry n (entry_jobs node.waiting) ∷ [];
    }

-- what waited for a worker's connections was handed out, and its answer taken
abbrev pub emptied : ℕ → Client → Client
emptied w client =
    cond (client.worker == w) (record client { queue = record client.queue { waiting = []; handed = client.queue.handed + length client.queue.waiting } }) client

abbrev pub cleared : Slot → Slot
cleared (Answered executed) = Empty
cleared slot = slot

abbrev pub collected_node : ℕ → Node → Node
collected_node w node =
    let worker = worker_at w node in
    record (with_worker w (record worker { slot = cleared worker.slot }) node) { clients = map (emptied w) node.clients }

-- the number of the first job of a connection that was dropped by a fall, else of its next
abbrev pub first_free : Client → ℕ
first_free client = elim client.lost [ None ↦ client.next | Some number ↦ number ]

-- A close: its bytes ended, what waits for it is dropped, and so are its jobs that weren't posted. An end without a reply is put in their place, numbered
-- as the first of them, else as the first that a fall dropped, else as the next, unless its bytes had asked for its end and nothing was ever dropped. Of
-- the connection nothing stays but its worker, whose batches may still owe jobs of it.
abbrev pub close_job : Client → Connection → ℕ → Jobs → Option Item
close_job client c time dropped =
    cond (not (is_some client.lost) && (client.ended && length dropped == 0)) None
    (Some (record { connection = c; number = close_number (first_free client) dropped; moment = moment time; deed = End None }))

abbrev pub dropped_at : Client → Connection → Node → Jobs
dropped_at client c node = own_jobs c (worker_at client.worker node).pending

abbrev pub closed_client : Client → Client
closed_client client =
    record {
      worker = client.worker;
      rest = [];
      mode = plain;
      next = 0;
      ended = false;
      closed = true;
      lost = None;
      fell = false;
      queue = closed_queue client.queue.connection;
    }

abbrev pub closed_node : Connection → ℕ → Node → Node
closed_node c time node =
    let client = client_at c.serial node in
    let worker = worker_at client.worker node in
    let kept = filter (λ (job : Item). not (same_connection job.connection c)) worker.pending in
    let job = close_job client c time (dropped_at client c node) in
    with_worker client.worker (record worker { pending = kept ++ option_to_list job }) (with_client c.serial (closed_client client) node)

abbrev pub closed : Connection → ℕ → World → World
closed c time world =
    let node = node_at c.node world in
    let client = client_at c.serial node in
    record (with_node c.node (closed_node c time node) world) {
      closed = world.closed ++ record { connection = c; job = close_job client c time (dropped_at client c node) } ∷ [];
    }

abbrev pub cut_client : Client → Client
cut_client client = record client { queue = cut_off client.queue }

-- A node comes back: its server is a copy of another's, it has applied all that it passed, and its connections so far get nothing more.
abbrev pub revived : ℕ → Server → Node → Node
revived tail server node =
    record node {
      clients = map cut_client node.clients;
      applied = node.passed;
      server = server;
      down = false;
      since = length node.clients;
      resumed = tail;
    }

-- what a step does that is enabled, where this was refused
abbrev pub effect : Setup → World → Step → Refused → World
effect setup world (Open n w) refused = opened setup n w world
effect setup world (Feed c time bytes) refused =
    record (with_node c.node (fed_node c time bytes (node_at c.node world)) world) {
      fed = world.fed ++ record { connection = c; moment = moment time; bytes = bytes } ∷ [];
    }
effect setup world (Post n w) refused =
    let node = node_at n world in
    let worker = worker_at w node in
    record (with_node n (with_worker w (posted_worker worker) node) world) {
      batches = world.batches ++ record { node = n; worker = w; number = worker.batches; jobs = take most_batch_jobs worker.pending } ∷ [];
    }
effect setup world (Lift n w) refused = with_node n (lifted_node w (node_at n world)) world
effect setup world (Reserve n) refused = reserved setup n world
effect setup world (Fill n t) refused =
    let node = node_at n world in with_node n (record node { unfilled = slice_set node.unfilled t false }) world
effect setup world (Fetch n) refused = with_node n (record (node_at n world) { fetched = true }) world
effect setup world (Apply n) refused = with_node n (advanced refused n (log_of world.taken) (node_at n world)) world
effect setup world (Look n) refused = looked refused n world
effect setup world (Answer n w) refused =
    let node = node_at n world in with_node n (with_worker w (record (worker_at w node) { slot = Answered (not node.down) }) node) world
effect setup world (Collect n w) refused = with_node n (collected_node w (node_at n world)) world
effect setup world (Close c time) refused = closed c time world
effect setup world (Refuse n) refused = with_node n (record (node_at n world) { refused = true }) world
effect setup world (Revive n f) refused = with_node n (revived (tail_of world) (node_at f world).server (node_at n world)) world

-- a step that isn't enabled changes nothing
abbrev pub effect_by : Outcome → Setup → World → Step → Refused → World
effect_by (Opened c) setup world step refused = effect setup world step refused
effect_by Done setup world step refused = effect setup world step refused
effect_by (Idle reason) setup world step refused = world

abbrev pub after_step : Setup → World → Step → Refused → World
after_step setup world step refused = effect_by (came_to setup world step refused) setup world step refused
