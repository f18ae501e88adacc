-- One of a node's workers, or one of its connections, changes.
use Rattle.std.proofs.Common.{◌≡◌, ℕ, zero, suc, ◌+◌, ◌<◌, Bool, false, List, [], ◌∷◌, ◌++◌, length, get_or, set, replicate, refl, ap, sym, ◌∙◌, arith, Option, Some, None}
use Rattle.std.specs.Prelude.{not, filter, option_to_list}
use Rattle.std.proofs.lemmas.List.{length-replicate, length-map, map-append}
use Rattle.nr_model.specs.Bytes.{Bytes}
use Rattle.nr_model.specs.Items.{Connection, Item, same_connection}
use Rattle.nr_model.specs.Keyspace.{moment}
use Rattle.nr_model.specs.Entries.{Jobs}
use Rattle.nr_model.specs.Asked.{jobs_from, own_jobs}
use Rattle.nr_model.specs.Modes.{plain}
use Rattle.nr_model.specs.Nodes as nodes
use Rattle.nr_model.specs.Nodes.Steps.{posted_jobs, lifted_node, fed_client, fed_node, asked_next, closed_client, closed_node, close_job}
use Rattle.nr_entry.specs.Jobs.{connection_of, item_of, items_of}
use Rattle.nr_entry.specs.declared.job.Job.{Job}
use Rattle.nr_entry.specs.declared.conn.ConnId.{ConnId}
use Rattle.nr_session.specs.SessionState.{SessionState}
use Rattle.nr_replica.specs.Members.{Member, fresh_member, closed_member}
use Rattle.nr_replica.specs.Replicas.{ReplicaState}
use Rattle.nr_world.specs.declared.worker.WorldWorker.{WorldWorker}
use Rattle.nr_world.specs.declared.worker.Slot.TheVariants as slots
use Rattle.nr_world.specs.declared.node.WorldNode.{WorldNode}
use Rattle.nr_world.specs.Workers.{slot_seen, worker_seen}
use Rattle.nr_world.specs.Served.{client_seen, clients_seen, workers_seen, node_seen, opened_node, answered_node}
use Rattle.nr_world.proofs.Sides.{length-both, get_or-both, both-set_left, both-set, both-push}

-- a node with another replica, and with other workers or sessions
abbrev pub seen_from : WorldNode → ReplicaState → List SessionState → List WorldWorker → nodes.Node
seen_from node replica sessions workers =
    record {
      clients = clients_seen sessions replica.members;
      workers = workers_seen workers replica.owed;
      waiting = items_of replica.waiting;
      at = node.at;
      unfilled = node.unfilled.items;
      applied = replica.applied;
      passed = node.passed;
      fetched = node.is_fetched;
      server = replica.server;
      down = replica.down;
      refused = replica.refused;
      since = node.since;
      resumed = node.resumed;
    }

abbrev pub seen_by : WorldNode → ReplicaState → List WorldWorker → nodes.Node
seen_by node replica workers = seen_from node replica node.sessions workers

abbrev pub seen_of : WorldNode → ReplicaState → List SessionState → nodes.Node
seen_of node replica sessions = seen_from node replica sessions node.workers.items

pub worker_changed : (change : nodes.Worker → nodes.Worker) (ws : List WorldWorker) (owed : List (Option ℕ)) (w : ℕ) (x old : WorldWorker)
    → w < length ws → length owed ≡ length ws → old ≡ get_or ws w old → ((o : Option ℕ) → worker_seen x o ≡ change (worker_seen old o))
    → workers_seen (set ws w x) owed ≡ set (workers_seen ws owed) w (change (get_or (workers_seen ws owed) w nodes.fresh_worker))
worker_changed change ws owed w x old h k at e =
    both-set_left worker_seen ws owed w x None
    ∙ ap (set (workers_seen ws owed) w) (e (get_or owed w None)
    ∙ ap (λ v. change (worker_seen v (get_or owed w None))) at
    ∙ ap change (sym (get_or-both worker_seen ws owed w old None nodes.fresh_worker h (omega arith))))

-- and what is owed of its batch
pub worker_and_owed : (change : nodes.Worker → nodes.Worker) (ws : List WorldWorker) (owed : List (Option ℕ)) (w : ℕ) (x old : WorldWorker) (o : Option ℕ)
    → w < length ws → length owed ≡ length ws → old ≡ get_or ws w old → worker_seen x o ≡ change (worker_seen old (get_or owed w None))
    → workers_seen (set ws w x) (set owed w o) ≡ set (workers_seen ws owed) w (change (get_or (workers_seen ws owed) w nodes.fresh_worker))
worker_and_owed change ws owed w x old o h k at e =
    both-set worker_seen ws owed w x o
    ∙ ap (set (workers_seen ws owed) w) (e
    ∙ ap (λ v. change (worker_seen v (get_or owed w None))) at
    ∙ ap change (sym (get_or-both worker_seen ws owed w old None nodes.fresh_worker h (omega arith))))

pub replicate-push : {A : Type 0} (n : ℕ) (x : A) → replicate (n + 1) x ≡ replicate n x ++ x ∷ []
replicate-push zero x = refl
replicate-push (suc n) x =
    let e : suc n + 1 ≡ suc (n + 1) = omega arith in
    ap (λ m. replicate m x) e ∙ ap (λ more. x ∷ more) (replicate-push n x)

-- a new worker behind the others
pub fresh_further : (ws new : List WorldWorker) (n : ℕ) (x : WorldWorker) → new ≡ ws ++ x ∷ [] → length ws ≡ n → workers_seen ws (replicate n None) ≡ replicate n nodes.fresh_worker → worker_seen x None ≡ nodes.fresh_worker
    → workers_seen new (replicate (n + 1) None) ≡ replicate (n + 1) nodes.fresh_worker
fresh_further ws new n x e k h f =
    let same : length ws ≡ length (replicate {A = Option ℕ} n None) = k ∙ sym (length-replicate n None) in
    ap (λ v. workers_seen v (replicate (n + 1) None)) e
    ∙ ap (workers_seen (ws ++ x ∷ [])) (replicate-push n None)
    ∙ both-push worker_seen ws (replicate n None) x None same
    ∙ (λ i. h i ++ f i ∷ [])
    ∙ sym (replicate-push n nodes.fresh_worker)

abbrev pub seen_with : WorldNode → List nodes.Worker → nodes.Node
seen_with node workers = record (node_seen node) { workers = workers }

pub answered_is : (node : WorldNode) (w : ℕ) (x old : WorldWorker) (down : Bool) (replica : ReplicaState) → w < length node.workers.items → length node.replica.owed ≡ length node.workers.items
    → old ≡ get_or node.workers.items w old → down ≡ node.replica.down
    → worker_seen x None ≡ record (worker_seen old (get_or node.replica.owed w None)) { slot = nodes.Answered (not down) }
    → replica ≡ record node.replica { owed = set node.replica.owed w None }
    → seen_by node replica (set node.workers.items w x) ≡ answered_node w (node_seen node)
answered_is node w x old down replica h k at d e r =
    ap (λ (s : ReplicaState). seen_by node s (set node.workers.items w x)) r
    ∙ ap (seen_with node) (worker_and_owed (λ v. record v { slot = nodes.Answered (not node.replica.down) }) node.workers.items node.replica.owed w x old None h k at
    (e ∙ ap (λ (b : Bool). record (worker_seen old (get_or node.replica.owed w None)) { slot = nodes.Answered (not b) }) d))

-- what is lifted is what was posted
pub posted_at : (node : WorldNode) (w : ℕ) (old : WorldWorker) → w < length node.workers.items → length node.replica.owed ≡ length node.workers.items → old ≡ get_or node.workers.items w old
    → posted_jobs (slot_seen old.slot (get_or node.replica.owed w None)) ≡ posted_jobs (nodes.worker_at w (node_seen node)).slot
posted_at node w old h k at =
    ap (λ (v : WorldWorker). posted_jobs (slot_seen v.slot (get_or node.replica.owed w None))) at
    ∙ ap (λ (v : nodes.Worker). posted_jobs v.slot) (sym (get_or-both worker_seen node.workers.items node.replica.owed w old None nodes.fresh_worker h (omega arith)))

pub opened_is : (node : WorldNode) (replica : ReplicaState) (session : SessionState) (sessions : List SessionState) (limit w : ℕ) (conn : ConnId)
    → length node.sessions ≡ length node.replica.members
    → replica ≡ record node.replica { members = node.replica.members ++ fresh_member (record { node = node.replica.node; serial = length node.replica.members }) w limit ∷ [] }
    → session ≡ record { connection = connection_of conn; rest = []; mode = plain; next = 0; fed = 0; ended = false; gave_end = false; lost = None; fell = false }
    → sessions ≡ node.sessions ++ session ∷ []
    → seen_of node replica sessions ≡ opened_node limit node.replica.node w (node_seen node)
opened_is node replica session sessions limit w conn h r s p =
    let new : Member = fresh_member (record { node = node.replica.node; serial = length node.replica.members }) w limit in
    let count : length node.replica.members ≡ length (clients_seen node.sessions node.replica.members) = sym (length-both client_seen node.sessions node.replica.members h ∙ h) in
    ap (λ (v : ReplicaState). seen_of node v sessions) r
    ∙ ap (λ (v : List nodes.Client). record (node_seen node) { clients = v })
    (ap (λ v. clients_seen v (node.replica.members ++ new ∷ [])) p
    ∙ both-push client_seen node.sessions node.replica.members session new h
    ∙ ap (λ (v : nodes.Client). clients_seen node.sessions node.replica.members ++ v ∷ [])
    (ap (λ (v : SessionState). client_seen v new) s ∙ ap (λ n. nodes.fresh_client limit w (record { node = node.replica.node; serial = n })) count))

pub lifted_is : (node : WorldNode) (w : ℕ) (x old : WorldWorker) (jobs : List Job) (replica : ReplicaState) → w < length node.workers.items → length node.replica.owed ≡ length node.workers.items
    → old ≡ get_or node.workers.items w old → items_of jobs ≡ posted_jobs (slot_seen old.slot (get_or node.replica.owed w None))
    → x.slot ≡ slots.Lifted → x.pending ≡ old.pending → x.batches ≡ old.batches
    → replica ≡ record node.replica { waiting = node.replica.waiting ++ jobs; owed = set node.replica.owed w (Some (length jobs)) }
    → seen_by node replica (set node.workers.items w x) ≡ lifted_node w (node_seen node)
lifted_is node w x old jobs replica h k at j s p b r =
    let o = get_or node.replica.owed w None in
    let count : length jobs ≡ length (posted_jobs (slot_seen old.slot o)) = sym (length-map jobs item_of) ∙ ap length j in
    let changed : worker_seen x (Some (length jobs)) ≡ record (worker_seen old o) { slot = nodes.Lifted (length (posted_jobs (slot_seen old.slot o))) } =
    λ i. record { pending = items_of (p i).items; batches = b i; slot = slot_seen (s i) (Some (count i)) } in
    let workers = worker_and_owed (λ v. record v { slot = nodes.Lifted (length (posted_jobs v.slot)) }) node.workers.items node.replica.owed w x old (Some (length jobs)) h k at changed in
    let waits : items_of (node.replica.waiting ++ jobs) ≡ items_of node.replica.waiting ++ posted_jobs (nodes.worker_at w (node_seen node)).slot =
    map-append item_of node.replica.waiting jobs ∙ ap (λ more. items_of node.replica.waiting ++ more) (j ∙ posted_at node w old h k at) in
    ap (λ (v : ReplicaState). seen_by node v (set node.workers.items w x)) r
    ∙ (λ i. record (node_seen node) { workers = workers i; waiting = waits i })

-- a client at a place, by its session and member
pub client_is : (node : WorldNode) (serial : ℕ) (old : SessionState) (member : Member) → serial < length node.sessions → length node.sessions ≡ length node.replica.members
    → old ≡ get_or node.sessions serial old → member ≡ get_or node.replica.members serial member → client_seen old member ≡ nodes.client_at serial (node_seen node)
client_is node serial old member h k atold atmember =
    (λ i. client_seen (atold i) (atmember i))
    ∙ sym (get_or-both client_seen node.sessions node.replica.members serial old member (nodes.fresh_client 0 0 (record { node = 0; serial = 0 })) h (omega arith))

-- bytes were fed to a connection
pub fed_is : (node : WorldNode) (conn : ConnId) (time : ℕ) (bytes : Bytes) (s old : SessionState) (member : Member) (w : ℕ) (x worker : WorldWorker)
    → conn.serial < length node.sessions → length node.sessions ≡ length node.replica.members → length node.replica.owed ≡ length node.workers.items → w < length node.workers.items
    → old ≡ get_or node.sessions conn.serial old → member ≡ get_or node.replica.members conn.serial member → w ≡ member.worker → worker ≡ get_or node.workers.items w worker
    → old.connection ≡ connection_of conn
    → client_seen s member ≡ fed_client (client_seen old member) bytes
    → items_of x.pending.items ≡ items_of worker.pending.items ++ jobs_from old.connection old.next (moment time) (asked_next (client_seen old member) bytes).deeds
    → x.batches ≡ worker.batches → x.slot ≡ worker.slot
    → seen_from node node.replica (set node.sessions conn.serial s) (set node.workers.items w x) ≡ fed_node (connection_of conn) time bytes (node_seen node)
fed_is node conn time bytes s old member w x worker h k o within atold atmember which atworker name c j b slot =
    let serial = conn.serial in
    let client = client_is node serial old member h k atold atmember in
    let clients : clients_seen (set node.sessions serial s) node.replica.members ≡ set (clients_seen node.sessions node.replica.members) serial (fed_client (nodes.client_at serial (node_seen node)) bytes) =
    both-set_left client_seen node.sessions node.replica.members serial s member
    ∙ ap (set (clients_seen node.sessions node.replica.members) serial) (ap (λ (m : Member). client_seen s m) (sym atmember) ∙ c ∙ ap (λ (v : nodes.Client). fed_client v bytes) client) in
    let more : nodes.Client → Jobs = λ (v : nodes.Client). jobs_from (connection_of conn) v.next (moment time) (asked_next v bytes).deeds in
    let pending : items_of x.pending.items ≡ items_of worker.pending.items ++ more (client_seen old member) =
    j ∙ ap (λ (d : Connection). items_of worker.pending.items ++ jobs_from d old.next (moment time) (asked_next (client_seen old member) bytes).deeds) name in
    let change : nodes.Worker → nodes.Worker = λ (v : nodes.Worker). record v { pending = v.pending ++ more (client_seen old member) } in
    let workers : workers_seen (set node.workers.items w x) node.replica.owed ≡ set (workers_seen node.workers.items node.replica.owed) w (change (get_or (workers_seen node.workers.items node.replica.owed) w nodes.fresh_worker)) =
    worker_changed change node.workers.items node.replica.owed w x worker within o atworker (λ q i. record { pending = pending i; batches = b i; slot = slot_seen (slot i) q }) in
    let put : ℕ → nodes.Client → nodes.Node = λ (n : ℕ) (v : nodes.Client). record (node_seen node) {
      clients = set (clients_seen node.sessions node.replica.members) serial (fed_client (nodes.client_at serial (node_seen node)) bytes);
      workers = set (workers_seen node.workers.items node.replica.owed) n (record (get_or (workers_seen node.workers.items node.replica.owed) n nodes.fresh_worker) { pending = (get_or (workers_seen node.workers.items node.replica.owed) n nodes.fresh_worker).pending ++ more v });
    } in
    let who : w ≡ (nodes.client_at serial (node_seen node)).worker = which ∙ ap (λ (v : nodes.Client). v.worker) client in
    (λ i. record (node_seen node) { clients = clients i; workers = workers i }) ∙ (λ i. put (who i) (client i))

-- a connection was closed
pub closed_is : (node : WorldNode) (conn : ConnId) (time : ℕ) (s old : SessionState) (member : Member) (w : ℕ) (x worker : WorldWorker) (replica : ReplicaState)
    → conn.serial < length node.sessions → length node.sessions ≡ length node.replica.members → length node.replica.owed ≡ length node.workers.items → w < length node.workers.items
    → old ≡ get_or node.sessions conn.serial old → member ≡ get_or node.replica.members conn.serial member → w ≡ member.worker → worker ≡ get_or node.workers.items w worker
    → client_seen s (closed_member member) ≡ closed_client (client_seen old member)
    → items_of x.pending.items ≡ filter (λ (job : Item). not (same_connection job.connection (connection_of conn))) (items_of worker.pending.items)
    ++ option_to_list (close_job (client_seen old member) (connection_of conn) time (own_jobs (connection_of conn) (items_of worker.pending.items)))
    → x.batches ≡ worker.batches → x.slot ≡ worker.slot
    → replica ≡ record node.replica { members = set node.replica.members conn.serial (closed_member member) }
    → seen_from node replica (set node.sessions conn.serial s) (set node.workers.items w x) ≡ closed_node (connection_of conn) time (node_seen node)
closed_is node conn time s old member w x worker replica h k o within atold atmember which atworker c j b slot r =
    let serial = conn.serial in
    let client = client_is node serial old member h k atold atmember in
    let clients : clients_seen (set node.sessions serial s) (set node.replica.members serial (closed_member member)) ≡ set (clients_seen node.sessions node.replica.members) serial (closed_client (nodes.client_at serial (node_seen node))) =
    both-set client_seen node.sessions node.replica.members serial s (closed_member member)
    ∙ ap (set (clients_seen node.sessions node.replica.members) serial) (c ∙ ap closed_client client) in
    let left : nodes.Client → Jobs → Jobs = λ (v : nodes.Client) (jobs : Jobs).
    filter (λ (job : Item). not (same_connection job.connection (connection_of conn))) jobs ++ option_to_list (close_job v (connection_of conn) time (own_jobs (connection_of conn) jobs)) in
    let change : nodes.Worker → nodes.Worker = λ (v : nodes.Worker). record v { pending = left (client_seen old member) v.pending } in
    let workers : workers_seen (set node.workers.items w x) node.replica.owed ≡ set (workers_seen node.workers.items node.replica.owed) w (change (get_or (workers_seen node.workers.items node.replica.owed) w nodes.fresh_worker)) =
    worker_changed change node.workers.items node.replica.owed w x worker within o atworker (λ q i. record { pending = j i; batches = b i; slot = slot_seen (slot i) q }) in
    let put : ℕ → nodes.Client → nodes.Node = λ (n : ℕ) (v : nodes.Client). record (node_seen node) {
      clients = set (clients_seen node.sessions node.replica.members) serial (closed_client (nodes.client_at serial (node_seen node)));
      workers = set (workers_seen node.workers.items node.replica.owed) n (record (get_or (workers_seen node.workers.items node.replica.owed) n nodes.fresh_worker) { pending = left v (get_or (workers_seen node.workers.items node.replica.owed) n nodes.fresh_worker).pending });
    } in
    let who : w ≡ (nodes.client_at serial (node_seen node)).worker = which ∙ ap (λ (v : nodes.Client). v.worker) client in
    ap (λ (v : ReplicaState). seen_from node v (set node.sessions conn.serial s) (set node.workers.items w x)) r
    ∙ (λ i. record (node_seen node) { clients = clients i; workers = workers i }) ∙ (λ i. put (who i) (client i))
