-- How many jobs are left: no step of a round makes them more, and an entry that is reserved and reads that are run make them fewer.
use Rattle.std.proofs.Common.{◌≡◌, ℕ, zero, suc, ◌+◌, ◌-◌, ◌≤◌, true, false, not, List, [], ◌∷◌, length, map, take, drop, replicate, slice_set, refl, ap, sym, arith}
use Rattle.std.proofs.lemmas.Bool.{cond_both}
use Rattle.std.proofs.lemmas.List.{length-append, length-take, length-drop}
use Rattle.nr_model.specs.Items.{Item}
use Rattle.nr_model.specs.Entries.{Jobs, entry_jobs, left_by_entry, read_jobs, left_by_reads}
use Rattle.nr_model.specs.Connections.{Setup}
use Rattle.nr_model.specs.Nodes.{Client, Slot, Empty, Posted, Lifted, Answered, Worker, Node, Logged, World, node_at, worker_at, with_worker, log_of, tail_of}
use Rattle.nr_model.specs.Nodes.Steps.{Step, Open, Feed, Post, Lift, Reserve, Fill, Fetch, Apply, Look, Answer, Collect, Close, Refuse, Revive, Outcome, Opened, Done, Idle, Cut, Refused, came_to, posted_jobs, posted_worker, most_batch_jobs, lifted_node, owing_less, jobs_of_worker, executed_from, is_owed, with_executed, with_entry, with_reads, advanced, advanced_by, looked, reserved, cleared, effect, effect_by, after_step}
use Rattle.nr_model.specs.Nodes.Pasts.{is_done}
use Rattle.nr_model.specs.Nodes.Settling.{posted_count, left_at_workers, left_in}
use Rattle.nr_model.proofs.NodesSteps.{by_look}
use Rattle.nr_model.proofs.NodesOwnAdvance.{by_advance, next_entry}
use Rattle.nr_model.proofs.NodesOwnShape.{worker_in}
use Rattle.nr_model.proofs.NodesOwnShaped.{node_in}
use Rattle.nr_model.proofs.NodesExecutedLists.{count, entry_parts, reads_parts}

-- the jobs that are left at a worker, and at a node
abbrev pub left_of_worker : Worker → ℕ
left_of_worker worker = length worker.pending + posted_count worker.slot

abbrev pub left_of : Node → ℕ
left_of node = length node.waiting + left_at_workers node.workers

-- another worker or node in its place, with so many fewer
workers_less : (workers : List Worker) (w : ℕ) (x : Worker) (k : ℕ) → left_of_worker x + k ≤ left_of_worker (worker_in workers w)
    → left_at_workers (slice_set workers w x) + k ≤ left_at_workers workers
workers_less [] w x k h = omega arith
workers_less (y ∷ workers) zero x k h = omega arith
workers_less (y ∷ workers) (suc w) x k h = let more = workers_less workers w x k h in omega arith

nodes_less : (nodes : List Node) (n : ℕ) (x : Node) (k : ℕ) → left_of x + k ≤ left_of (node_in nodes n) → left_in (slice_set nodes n x) + k ≤ left_in nodes
nodes_less [] n x k h = omega arith
nodes_less (y ∷ nodes) zero x k h = omega arith
nodes_less (y ∷ nodes) (suc n) x k h = let more = nodes_less nodes n x k h in omega arith

-- workers that jobs were executed for, and those of a node that fell
posted_less : (n : ℕ) (slot : Slot) → posted_count (owing_less n slot) ≡ posted_count slot
posted_less n Empty = refl
posted_less n (Posted jobs) = refl
posted_less n (Lifted owed) = refl
posted_less n (Answered executed) = refl

executed_left : (w : ℕ) (clients : List Client) (jobs : Jobs) (workers : List Worker) → left_at_workers (executed_from w clients jobs workers) ≡ left_at_workers workers
executed_left w clients jobs [] = refl
executed_left w clients jobs (worker ∷ workers) =
    let more = executed_left (suc w) clients jobs workers in
    λ i. length worker.pending + posted_less (length (jobs_of_worker w clients jobs)) worker.slot i + more i

fallen_left : (workers : List Worker) → left_at_workers (map (λ (worker : Worker). record worker { pending = [] }) workers) ≤ left_at_workers workers
fallen_left [] = omega arith
fallen_left (worker ∷ workers) = let more = fallen_left workers in omega arith

-- entries that are passed
entry_left : (cuts : List Cut) (n : ℕ) (entry : Logged) (node : Node) → left_of (with_entry cuts n entry node) ≤ left_of node
entry_left cuts n entry node =
    let same = executed_left 0 node.clients entry.jobs node.workers in
    cond_both (is_owed n entry node) (with_executed entry.jobs node) node
    (λ (x : Node). length x.waiting + left_at_workers x.workers ≤ left_of node) (λ own. omega arith) (λ other. omega arith)

pub advanced_left : (refused : Refused) (n : ℕ) (log : List Logged) (node : Node) → left_of (advanced refused n log node) ≤ left_of node
advanced_left refused n log node =
    by_advance (λ (x : Node). left_of x ≤ left_of node) refused n log node (λ down. omega arith)
    (λ up. let less = fallen_left node.workers in omega arith)
    (λ up. entry_left refused.cuts n (next_entry log node) node)

pub advanced_by_left : (count : ℕ) (refused : Refused) (n : ℕ) (log : List Logged) (node : Node) → left_of (advanced_by count refused n log node) ≤ left_of node
advanced_by_left zero refused n log node = omega arith
advanced_by_left (suc count) refused n log node =
    let one = advanced_left refused n log node in
    let more = advanced_by_left count refused n log (advanced refused n log node) in
    omega arith

-- all pass
counts_all : (jobs : Jobs) → count (λ (job : Item). true) jobs ≡ length jobs
counts_all [] = refl
counts_all (job ∷ jobs) = ap suc (counts_all jobs)

-- reads that are run, and an entry that is reserved
pub reads_left : (cuts : List Cut) (tail : ℕ) (node : Node) → left_of (with_reads cuts tail node) + length (read_jobs node.waiting) ≤ left_of node
reads_left cuts tail node =
    let all = (reads_parts node.waiting).counts (λ job. true) in
    let whole = counts_all node.waiting in
    let taken = counts_all (read_jobs node.waiting) in
    let left = counts_all (left_by_reads node.waiting) in
    let same = executed_left 0 node.clients (read_jobs node.waiting) node.workers in
    omega arith

entry_shorter : (waiting : Jobs) → length (left_by_entry waiting) + length (entry_jobs waiting) ≡ length waiting
entry_shorter waiting =
    let all = (entry_parts waiting).counts (λ job. true) in
    let whole = counts_all waiting in
    let taken = counts_all (entry_jobs waiting) in
    let left = counts_all (left_by_entry waiting) in
    omega arith

-- by whether a step is done
pub by_outcome : (P : World → Type 0) (o : Outcome) (setup : Setup) (world : World) (step : Step) (refused : Refused) → (is_done o ≡ false → P world)
    → (is_done o ≡ true → P (effect setup world step refused)) → P (effect_by o setup world step refused)
by_outcome P (Opened c) setup world step refused idle done = done refl
by_outcome P Done setup world step refused idle done = done refl
by_outcome P (Idle reason) setup world step refused idle done = idle refl

-- a step of a round
abbrev pub IsInner : Step → Type 0
IsInner (Open n w) = ⊥
IsInner (Feed c time bytes) = ⊥
IsInner (Post n w) = Unit {0}
IsInner (Lift n w) = Unit {0}
IsInner (Reserve n) = Unit {0}
IsInner (Fill n t) = Unit {0}
IsInner (Fetch n) = Unit {0}
IsInner (Apply n) = Unit {0}
IsInner (Look n) = Unit {0}
IsInner (Answer n w) = Unit {0}
IsInner (Collect n w) = Unit {0}
IsInner (Close c time) = ⊥
IsInner (Refuse n) = ⊥
IsInner (Revive n f) = ⊥

-- a step that does this
step_less : (setup : Setup) (world : World) (step : Step) (refused : Refused) → left_in (effect setup world step refused).nodes ≤ left_in world.nodes
    → left_in (after_step setup world step refused).nodes ≤ left_in world.nodes
step_less setup world step refused h =
    by_outcome (λ (x : World). left_in x.nodes ≤ left_in world.nodes) (came_to setup world step refused) setup world step refused (λ idle. omega arith) (λ done. h)

-- another node in its place
node_less : (n : ℕ) (node : Node) (world : World) → left_of node ≤ left_of (node_at n world) → left_in (slice_set world.nodes n node) ≤ left_in world.nodes
node_less n node world h = let less = nodes_less world.nodes n node 0 (omega arith) in omega arith

worker_less : (n w : ℕ) (worker : Worker) (node : Node) → left_of_worker worker ≤ left_of_worker (worker_at w node)
    → left_of (with_worker w worker node) ≤ left_of node
worker_less n w worker node h = let less = workers_less node.workers w worker 0 (omega arith) in omega arith

cleared_less : (slot : Slot) → posted_count (cleared slot) ≤ posted_count slot
cleared_less Empty = omega arith
cleared_less (Posted jobs) = omega arith
cleared_less (Lifted owed) = omega arith
cleared_less (Answered executed) = omega arith

posted_long : (slot : Slot) → length (posted_jobs slot) ≡ posted_count slot
posted_long Empty = refl
posted_long (Posted jobs) = refl
posted_long (Lifted owed) = refl
posted_long (Answered executed) = refl

-- the first of a list and what is behind them
split_long : (k : ℕ) (jobs : Jobs) (more : ℕ) → length (drop k jobs) + length (take k jobs) ≤ length jobs + more
split_long k jobs more =
    let front = length-take k jobs in
    let behind = length-drop k jobs in
    omega arith

-- no step of a round makes them more
pub step_left : (setup : Setup) (world : World) (step : Step) (refused : Refused) → IsInner step
    → left_in (after_step setup world step refused).nodes ≤ left_in world.nodes
step_left setup world (Open n w) refused is = absurd is
step_left setup world (Feed c time bytes) refused is = absurd is
step_left setup world (Close c time) refused is = absurd is
step_left setup world (Refuse n) refused is = absurd is
step_left setup world (Revive n f) refused is = absurd is
step_left setup world (Post n w) refused is = step_less setup world (Post n w) refused
    (let node = node_at n world in
    let worker = worker_at w node in
    node_less n (with_worker w (posted_worker worker) node) world
    (worker_less n w (posted_worker worker) node (split_long most_batch_jobs worker.pending (posted_count worker.slot))))
step_left setup world (Lift n w) refused is = step_less setup world (Lift n w) refused
    (let node = node_at n world in
    let worker = worker_at w node in
    let jobs = posted_jobs worker.slot in
    let long = posted_long worker.slot in
    let waits = length-append node.waiting jobs in
    let less = workers_less node.workers w (record worker { slot = Lifted (length jobs) }) (length jobs) (omega arith) in
    node_less n (lifted_node w node) world (omega arith))
step_left setup world (Reserve n) refused is = step_less setup world (Reserve n) refused
    (let node = node_at n world in
    let shorter = entry_shorter node.waiting in
    node_less n (record node { waiting = left_by_entry node.waiting; at = tail_of world; unfilled = replicate setup.nodes true }) world (omega arith))
step_left setup world (Fill n t) refused is = step_less setup world (Fill n t) refused (node_less n _ world (omega arith))
step_left setup world (Fetch n) refused is = step_less setup world (Fetch n) refused (node_less n _ world (omega arith))
step_left setup world (Apply n) refused is =
    step_less setup world (Apply n) refused (node_less n _ world (advanced_left refused n (log_of world.taken) (node_at n world)))
step_left setup world (Look n) refused is = step_less setup world (Look n) refused
    (let node = node_at n world in
    let ahead = advanced_by (tail_of world - node.passed) refused n (log_of world.taken) node in
    let less = advanced_by_left (tail_of world - node.passed) refused n (log_of world.taken) node in
    let fewer = reads_left refused.cuts (tail_of world) ahead in
    by_look (λ (x : World). left_in x.nodes ≤ left_in world.nodes) refused n world ahead refl (λ down. node_less n ahead world less)
    (λ up. node_less n (with_reads refused.cuts (tail_of world) ahead) world (omega arith)))
step_left setup world (Answer n w) refused is = step_less setup world (Answer n w) refused
    (let node = node_at n world in
    node_less n _ world (worker_less n w (record (worker_at w node) { slot = Answered (not node.down) }) node (omega arith)))
step_left setup world (Collect n w) refused is = step_less setup world (Collect n w) refused
    (let node = node_at n world in
    let worker = worker_at w node in
    let less = cleared_less worker.slot in
    node_less n _ world (worker_less n w (record worker { slot = cleared worker.slot }) node (omega arith)))

-- an entry that is reserved makes them fewer, and so do reads that a node runs that has passed the whole log
pub reserve_fewer : (setup : Setup) (n : ℕ) (world : World)
    → left_in (reserved setup n world).nodes + length (entry_jobs (node_at n world).waiting) ≤ left_in world.nodes
reserve_fewer setup n world =
    let node = node_at n world in
    let shorter = entry_shorter node.waiting in
    nodes_less world.nodes n (record node { waiting = left_by_entry node.waiting; at = tail_of world; unfilled = replicate setup.nodes true })
    (length (entry_jobs node.waiting)) (omega arith)

pub look_fewer : (refused : Refused) (n : ℕ) (world : World) → (node_at n world).passed ≡ tail_of world → (node_at n world).down ≡ false
    → left_in (looked refused n world).nodes + length (read_jobs (node_at n world).waiting) ≤ left_in world.nodes
look_fewer refused n world passed up =
    let node = node_at n world in
    let none : tail_of world - node.passed ≡ 0 = omega arith in
    let same = ap (λ (k : ℕ). advanced_by k refused n (log_of world.taken) node) (sym none) in
    let fewer = reads_left refused.cuts (tail_of world) node in
    by_look (λ (x : World). left_in x.nodes + length (read_jobs node.waiting) ≤ left_in world.nodes) refused n world node same
    (λ down. absurd (cc (up, down)))
    (λ on. nodes_less world.nodes n (with_reads refused.cuts (tail_of world) node) (length (read_jobs node.waiting)) fewer)
