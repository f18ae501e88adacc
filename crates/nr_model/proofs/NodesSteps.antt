-- What each enabled step of a server of several nodes keeps holds of every world that events lead to.
use Rattle.std.proofs.Common.{◌≡◌, ◌≢◌, ℕ, ◌<◌, ◌-◌, Bool, true, false, not, cond, inl, inr, List, [], ◌∷◌, ◌++◌, length, replicate, map, suc, zero, refl, ap, sym, ◌∙◌, subst, ltb, arith, append_assoc}
use Rattle.std.specs.Prelude.{◌&&◌, ◌||◌, ◌==◌, nat_le, fold, slice_index_or, None}
use Rattle.std.specs.List.{list_any}
use Rattle.std.proofs.lemmas.Bool.{not-false, or_parts, and_parts, ltb-true, eqb-true, cond_both}
use Rattle.std.proofs.lemmas.Bool.Decides.{eqb_tells}
use Rattle.std.proofs.lemmas.List.{append-nil, length-map, length-set, length-replicate, get_or-replicate, get_or-set_same, get_or-set_other}
use Rattle.nr_model.specs.Bytes.{Bytes}
use Rattle.nr_model.specs.Items.{Connection}
use Rattle.nr_model.specs.Entries.{Jobs, entry_items, entry_jobs, left_by_entry, read_jobs}
use Rattle.nr_model.specs.Servers.{after_all, emitted_all}
use Rattle.nr_model.specs.Connections.{Setup}
use Rattle.nr_model.specs.Nodes.{Client, Worker, Logged, Slot, Empty, Posted, Lifted, Answered, Node, World, fresh, fresh_node, no_node, fresh_worker, Reads, node_at, worker_at, client_of, with_node, with_worker, log_of, tail_of}
use Rattle.nr_model.specs.Nodes.Steps.{Step, Open, Feed, Post, Lift, Reserve, Fill, Fetch, Apply, Look, Answer, Collect, Close, Refuse, Revive, Outcome, Opened, Done, Idle, Refused, idle_where, is_node, is_worker, is_client, in_use, is_empty, is_free, is_posted, is_lifted, is_answered, owed_in, is_true, has_place, is_filled, are_filled, next_fetch, collected, has_batch, is_busy, outcome, with_copy, came_to, posted_jobs, executed_from, is_owed, is_overrun, advanced, advanced_by, passing, opened, fed_node, posted_worker, reserved, looked, with_reads, closed_node, closed, nothing_refused, delivered_to, effect, effect_by, after_step}
use Rattle.nr_model.specs.declared.reason.Reason.{Reason}
use Rattle.nr_model.specs.declared.reason.Reason.TheVariants.{NoSuch, Ended, TooMany, Down, Busy, Nothing, Full, NotYet, NoMemory}
use Rattle.nr_model.proofs.NodesOwnAdvance.{next_entry, by_advance}
use Rattle.nr_model.specs.Nodes.Pasts.{Event, is_done, handed_by, answer_by, after_event, world_after, AreEvents}

-- how large a node is: its workers, and its cells of an entry
pub record IsSized (setup : Setup) (node : Node) : Type 0 where
  pub workers : length node.workers ≡ setup.workers
  pub cells : length node.unfilled ≡ setup.nodes

-- and a world
pub record AreSized (setup : Setup) (world : World) : Type 0 where
  pub nodes : length world.nodes ≡ setup.nodes
  pub each : (n : ℕ) → n < length world.nodes → IsSized setup (node_at n world)

-- a worker of a node
pub record IsWorker (setup : Setup) (world : World) (n w : ℕ) : Type 0 where
  pub there : n < length world.nodes
  pub within : w < setup.workers
  pub stands : w < length (node_at n world).workers

-- a connection of a node
pub record IsClient (world : World) (c : Connection) : Type 0 where
  pub there : c.node < length world.nodes
  pub stands : c.serial < length (node_at c.node world).clients

-- what the outcome of each step tells that is enabled
pub record MayOpen (setup : Setup) (world : World) (n w : ℕ) : Type 0 where
  pub worker : IsWorker setup world n w
  pub room : nat_le setup.connections (in_use (node_at n world)) ≡ false
  pub up : (node_at n world).down ≡ false

pub record MayFeed (world : World) (c : Connection) : Type 0 where
  pub client : IsClient world c
  pub on : (client_of c world).ended ≡ false
  pub unclosed : (client_of c world).closed ≡ false
  pub uncut : (client_of c world).queue.cut ≡ false
  pub up : (node_at c.node world).down ≡ false

pub record MayPost (setup : Setup) (world : World) (n w : ℕ) : Type 0 where
  pub worker : IsWorker setup world n w
  pub up : (node_at n world).down ≡ false
  pub free : (worker_at w (node_at n world)).slot ≡ Empty
  pub some : is_empty (worker_at w (node_at n world)).pending ≡ false

pub record MayLift (setup : Setup) (world : World) (n w : ℕ) : Type 0 where
  pub worker : IsWorker setup world n w
  pub up : (node_at n world).down ≡ false
  pub posted : (worker_at w (node_at n world)).slot ≡ Posted (posted_jobs (worker_at w (node_at n world)).slot)

pub record MayReserve (setup : Setup) (world : World) (n : ℕ) : Type 0 where
  pub there : n < length world.nodes
  pub up : (node_at n world).down ≡ false
  pub filled : list_any is_true (node_at n world).unfilled ≡ false
  pub some : is_empty (entry_jobs (node_at n world).waiting) ≡ false
  pub room : has_place setup world ≡ true

pub record MayFill (setup : Setup) (world : World) (n t : ℕ) : Type 0 where
  pub there : n < length world.nodes
  pub cell : t < setup.nodes
  pub unfilled : slice_index_or (node_at n world).unfilled t false ≡ true

pub record MayFetch (world : World) (n : ℕ) : Type 0 where
  pub there : n < length world.nodes
  pub free : (node_at n world).fetched ≡ false
  pub some : ((node_at n world).passed == tail_of world) ≡ false
  pub filled : is_filled world n (node_at n world).passed ≡ true

pub record MayApply (world : World) (n : ℕ) : Type 0 where
  pub there : n < length world.nodes
  pub holds : (node_at n world).fetched ≡ true

pub record MayLook (world : World) (n : ℕ) : Type 0 where
  pub there : n < length world.nodes
  pub up : (node_at n world).down ≡ false
  pub some : is_empty (read_jobs (node_at n world).waiting) ≡ false
  pub filled : are_filled world n (next_fetch (node_at n world)) (tail_of world - next_fetch (node_at n world)) ≡ true

pub record MayAnswer (setup : Setup) (world : World) (n w : ℕ) : Type 0 where
  pub worker : IsWorker setup world n w
  pub full : (is_lifted (worker_at w (node_at n world)).slot || ((node_at n world).down && is_posted (worker_at w (node_at n world)).slot)) ≡ true
  pub owed : (not (node_at n world).down && not (owed_in (worker_at w (node_at n world)).slot == 0)) ≡ false

pub record MayCollect (setup : Setup) (world : World) (n w : ℕ) : Type 0 where
  pub worker : IsWorker setup world n w
  pub some : (not (is_answered (worker_at w (node_at n world)).slot) && length (collected w (node_at n world).clients) == 0) ≡ false

pub record MayClose (world : World) (c : Connection) : Type 0 where
  pub client : IsClient world c
  pub unclosed : (client_of c world).closed ≡ false
  pub up : (node_at c.node world).down ≡ false

pub record MayRefuse (world : World) (n : ℕ) : Type 0 where
  pub there : n < length world.nodes
  pub up : (node_at n world).down ≡ false

pub record MayRevive (world : World) (n f : ℕ) : Type 0 where
  pub there : n < length world.nodes
  pub donor : f < length world.nodes
  pub up : (node_at f world).down ≡ false
  pub free : (node_at n world).fetched ≡ false
  pub filled : list_any is_true (node_at n world).unfilled ≡ false
  pub idle : list_any has_batch (node_at n world).workers ≡ false
  pub down : (node_at n world).down ≡ true
  pub even : (node_at n world).passed ≡ (node_at f world).passed

-- Q holds between the world before, the step, what was refused in it, its outcome and the world after
pub record Moves (setup : Setup) (Q : World → Step → Refused → Outcome → World → Type 0) : Type 0 where
  pub idles : (world : World) (step : Step) (refused : Refused) (reason : Reason) → Q world step refused (Idle reason) world
  pub opens : (world : World) (n w : ℕ) (refused : Refused) → MayOpen setup world n w
      → Q world (Open n w) refused (Opened (record { node = n; serial = length (node_at n world).clients })) (effect setup world (Open n w) refused)
  pub feeds : (world : World) (c : Connection) (time : ℕ) (bytes : Bytes) (refused : Refused) → MayFeed world c
      → Q world (Feed c time bytes) refused Done (effect setup world (Feed c time bytes) refused)
  pub posts : (world : World) (n w : ℕ) (refused : Refused) → MayPost setup world n w
      → Q world (Post n w) refused Done (effect setup world (Post n w) refused)
  pub lifts : (world : World) (n w : ℕ) (refused : Refused) → MayLift setup world n w
      → Q world (Lift n w) refused Done (effect setup world (Lift n w) refused)
  pub reserves : (world : World) (n : ℕ) (refused : Refused) → MayReserve setup world n
      → Q world (Reserve n) refused Done (effect setup world (Reserve n) refused)
  pub fills : (world : World) (n t : ℕ) (refused : Refused) → MayFill setup world n t
      → Q world (Fill n t) refused Done (effect setup world (Fill n t) refused)
  pub fetches : (world : World) (n : ℕ) (refused : Refused) → MayFetch world n
      → Q world (Fetch n) refused Done (effect setup world (Fetch n) refused)
  pub applies : (world : World) (n : ℕ) (refused : Refused) → MayApply world n
      → Q world (Apply n) refused Done (effect setup world (Apply n) refused)
  pub looks : (world : World) (n : ℕ) (refused : Refused) → MayLook world n
      → Q world (Look n) refused Done (effect setup world (Look n) refused)
  pub answers : (world : World) (n w : ℕ) (refused : Refused) → MayAnswer setup world n w
      → Q world (Answer n w) refused Done (effect setup world (Answer n w) refused)
  pub collects : (world : World) (n w : ℕ) (refused : Refused) → MayCollect setup world n w
      → Q world (Collect n w) refused Done (effect setup world (Collect n w) refused)
  pub closes : (world : World) (c : Connection) (time : ℕ) (refused : Refused) → MayClose world c
      → Q world (Close c time) refused Done (effect setup world (Close c time) refused)
  pub refuses : (world : World) (n : ℕ) (refused : Refused) → MayRefuse world n
      → Q world (Refuse n) refused Done (effect setup world (Refuse n) refused)
  pub revives : (world : World) (n f : ℕ) (refused : Refused) → MayRevive world n f
      → Q world (Revive n f) refused Done (effect setup world (Revive n f) refused)

-- a step that is not enabled changes nothing
unless : (setup : Setup) (world : World) (step : Step) (refused : Refused) (R : Outcome → World → Type 0) (holds : Bool) (reason : Reason) (otherwise : Outcome)
    → R (Idle reason) world → (holds ≡ false → R otherwise (effect_by otherwise setup world step refused))
    → R (idle_where holds reason otherwise) (effect_by (idle_where holds reason otherwise) setup world step refused)
unless setup world step refused R true reason otherwise p q = p
unless setup world step refused R false reason otherwise p q = q refl

-- the same of what a step comes to
unless_it : (R : Outcome → Type 0) (holds : Bool) (reason : Reason) (otherwise : Outcome) → R (Idle reason) → (holds ≡ false → R otherwise)
    → R (idle_where holds reason otherwise)
unless_it R true reason otherwise p q = p
unless_it R false reason otherwise p q = q refl

-- a node that there is
is_there : (setup : Setup) (world : World) (n : ℕ) → AreSized setup world → not (is_node setup n) ≡ false → n < length world.nodes
is_there setup world n sized e =
    let below : n < setup.nodes = ltb-true n setup.nodes (not-false (ltb n setup.nodes) e) in
    let long = sized.nodes in
    omega arith

-- a worker that there is
is_at : (setup : Setup) (world : World) (n w : ℕ) → AreSized setup world → not (is_worker setup n w) ≡ false → IsWorker setup world n w
is_at setup world n w sized e =
    let both = and_parts (ltb n setup.nodes) (ltb w setup.workers) (not-false (is_worker setup n w) e) in
    let here : n < setup.nodes = ltb-true n setup.nodes both.0 in
    let below : w < setup.workers = ltb-true w setup.workers both.1 in
    let long = sized.nodes in
    let at : n < length world.nodes = omega arith in
    let workers = (sized.each n at).workers in
    record { there = at; within = below; stands = omega arith }

-- a connection that there is
pub a_client : (world : World) (c : Connection) → is_client world c ≡ true → IsClient world c
a_client world c e =
    let both = and_parts (ltb c.node (length world.nodes)) (ltb c.serial (length (node_at c.node world).clients)) e in
    record { there = ltb-true c.node (length world.nodes) both.0; stands = ltb-true c.serial (length (node_at c.node world).clients) both.1 }

-- an empty slot, and a posted batch
free_is : (slot : Slot) → not (is_free slot) ≡ false → slot ≡ Empty
free_is Empty e = refl
free_is (Posted jobs) e = absurd (cc e)
free_is (Lifted owed) e = absurd (cc e)
free_is (Answered executed) e = absurd (cc e)

posted_is : (slot : Slot) → not (is_posted slot) ≡ false → slot ≡ Posted (posted_jobs slot)
posted_is Empty e = absurd (cc e)
posted_is (Posted jobs) e = refl
posted_is (Lifted owed) e = absurd (cc e)
posted_is (Answered executed) e = absurd (cc e)

-- any step moves so
pub each_step : (setup : Setup) (Q : World → Step → Refused → Outcome → World → Type 0) → Moves setup Q → (world : World) (step : Step) (refused : Refused)
    → AreSized setup world → Q world step refused (came_to setup world step refused) (after_step setup world step refused)
each_step setup Q moves world (Open n w) refused sized =
    let step = Open n w in
    let idle = moves.idles world step refused in
    unless setup world step refused (Q world step refused) (not (is_worker setup n w)) NoSuch _ (idle NoSuch) (λ here.
    unless setup world step refused (Q world step refused) (nat_le setup.connections (in_use (node_at n world))) TooMany _ (idle TooMany) (λ room.
    unless setup world step refused (Q world step refused) (node_at n world).down Down _ (idle Down) (λ up.
    moves.opens world n w refused (record { worker = is_at setup world n w sized here; room = room; up = up }))))
each_step setup Q moves world (Feed c time bytes) refused sized =
    let step = Feed c time bytes in
    let client = client_of c world in
    let idle = moves.idles world step refused in
    unless setup world step refused (Q world step refused) (not (is_client world c)) NoSuch _ (idle NoSuch) (λ here.
    unless setup world step refused (Q world step refused) (client.ended || (client.closed || is_overrun client)) Ended _ (idle Ended) (λ on.
    unless setup world step refused (Q world step refused) (node_at c.node world).down Down _ (idle Down) (λ up.
    unless setup world step refused (Q world step refused) client.queue.cut Ended _ (idle Ended) (λ uncut.
    let first = or_parts client.ended (client.closed || is_overrun client) on in
    let second = or_parts client.closed (is_overrun client) first.1 in
    moves.feeds world c time bytes refused (record {
      client = a_client world c (not-false (is_client world c) here);
      on = first.0;
      unclosed = second.0;
      uncut = uncut;
      up = up;
    })))))
each_step setup Q moves world (Post n w) refused sized =
    let step = Post n w in
    let worker = worker_at w (node_at n world) in
    let idle = moves.idles world step refused in
    unless setup world step refused (Q world step refused) (not (is_worker setup n w)) NoSuch _ (idle NoSuch) (λ here.
    unless setup world step refused (Q world step refused) (node_at n world).down Down _ (idle Down) (λ up.
    unless setup world step refused (Q world step refused) (not (is_free worker.slot)) Busy _ (idle Busy) (λ free.
    unless setup world step refused (Q world step refused) (is_empty worker.pending) Nothing _ (idle Nothing) (λ some.
    moves.posts world n w refused (record { worker = is_at setup world n w sized here; up = up; free = free_is worker.slot free; some = some })))))
each_step setup Q moves world (Lift n w) refused sized =
    let step = Lift n w in
    let worker = worker_at w (node_at n world) in
    let idle = moves.idles world step refused in
    unless setup world step refused (Q world step refused) (not (is_worker setup n w)) NoSuch _ (idle NoSuch) (λ here.
    unless setup world step refused (Q world step refused) (node_at n world).down Down _ (idle Down) (λ up.
    unless setup world step refused (Q world step refused) (not (is_posted worker.slot)) Nothing _ (idle Nothing) (λ some.
    moves.lifts world n w refused (record { worker = is_at setup world n w sized here; up = up; posted = posted_is worker.slot some }))))
each_step setup Q moves world (Reserve n) refused sized =
    let step = Reserve n in
    let node = node_at n world in
    let idle = moves.idles world step refused in
    unless setup world step refused (Q world step refused) (not (is_node setup n)) NoSuch _ (idle NoSuch) (λ here.
    unless setup world step refused (Q world step refused) node.down Down _ (idle Down) (λ up.
    unless setup world step refused (Q world step refused) (list_any is_true node.unfilled) Busy _ (idle Busy) (λ filled.
    unless setup world step refused (Q world step refused) (is_empty (entry_jobs node.waiting)) Nothing _ (idle Nothing) (λ some.
    unless setup world step refused (Q world step refused) (not (has_place setup world)) Full _ (idle Full) (λ room.
    moves.reserves world n refused (record {
      there = is_there setup world n sized here;
      up = up;
      filled = filled;
      some = some;
      room = not-false (has_place setup world) room;
    }))))))
each_step setup Q moves world (Fill n t) refused sized =
    let step = Fill n t in
    let node = node_at n world in
    let idle = moves.idles world step refused in
    unless setup world step refused (Q world step refused) (not (is_node setup n && is_node setup t)) NoSuch _ (idle NoSuch) (λ here.
    unless setup world step refused (Q world step refused) (not (slice_index_or node.unfilled t false)) Nothing _ (idle Nothing) (λ some.
    let both = and_parts (ltb n setup.nodes) (ltb t setup.nodes) (not-false (is_node setup n && is_node setup t) here) in
    moves.fills world n t refused (record {
      there = is_there setup world n sized (ap not both.0);
      cell = ltb-true t setup.nodes both.1;
      unfilled = not-false (slice_index_or node.unfilled t false) some;
    })))
each_step setup Q moves world (Fetch n) refused sized =
    let step = Fetch n in
    let node = node_at n world in
    let idle = moves.idles world step refused in
    unless setup world step refused (Q world step refused) (not (is_node setup n)) NoSuch _ (idle NoSuch) (λ here.
    unless setup world step refused (Q world step refused) node.fetched Busy _ (idle Busy) (λ free.
    unless setup world step refused (Q world step refused) (node.passed == tail_of world) Nothing _ (idle Nothing) (λ some.
    unless setup world step refused (Q world step refused) (not (is_filled world n node.passed)) NotYet _ (idle NotYet) (λ filled.
    moves.fetches world n refused (record {
      there = is_there setup world n sized here;
      free = free;
      some = some;
      filled = not-false (is_filled world n node.passed) filled;
    })))))
each_step setup Q moves world (Apply n) refused sized =
    let step = Apply n in
    let node = node_at n world in
    let idle = moves.idles world step refused in
    unless setup world step refused (Q world step refused) (not (is_node setup n)) NoSuch _ (idle NoSuch) (λ here.
    unless setup world step refused (Q world step refused) (not node.fetched) Nothing _ (idle Nothing) (λ held.
    moves.applies world n refused (record { there = is_there setup world n sized here; holds = not-false node.fetched held })))
each_step setup Q moves world (Look n) refused sized =
    let step = Look n in
    let node = node_at n world in
    let idle = moves.idles world step refused in
    let all = are_filled world n (next_fetch node) (tail_of world - next_fetch node) in
    unless setup world step refused (Q world step refused) (not (is_node setup n)) NoSuch _ (idle NoSuch) (λ here.
    unless setup world step refused (Q world step refused) node.down Down _ (idle Down) (λ up.
    unless setup world step refused (Q world step refused) (is_empty (read_jobs node.waiting)) Nothing _ (idle Nothing) (λ some.
    unless setup world step refused (Q world step refused) (not all) NotYet _ (idle NotYet) (λ filled.
    moves.looks world n refused (record { there = is_there setup world n sized here; up = up; some = some; filled = not-false all filled })))))
each_step setup Q moves world (Answer n w) refused sized =
    let step = Answer n w in
    let node = node_at n world in
    let slot = (worker_at w node).slot in
    let idle = moves.idles world step refused in
    let full = is_lifted slot || (node.down && is_posted slot) in
    unless setup world step refused (Q world step refused) (not (is_worker setup n w)) NoSuch _ (idle NoSuch) (λ here.
    unless setup world step refused (Q world step refused) (not full) Nothing _ (idle Nothing) (λ some.
    unless setup world step refused (Q world step refused) (not node.down && not (owed_in slot == 0)) NotYet _ (idle NotYet) (λ owed.
    moves.answers world n w refused (record { worker = is_at setup world n w sized here; full = not-false full some; owed = owed }))))
each_step setup Q moves world (Collect n w) refused sized =
    let step = Collect n w in
    let node = node_at n world in
    let none = not (is_answered (worker_at w node).slot) && length (collected w node.clients) == 0 in
    let idle = moves.idles world step refused in
    unless setup world step refused (Q world step refused) (not (is_worker setup n w)) NoSuch _ (idle NoSuch) (λ here.
    unless setup world step refused (Q world step refused) none Nothing _ (idle Nothing) (λ some.
    moves.collects world n w refused (record { worker = is_at setup world n w sized here; some = some })))
each_step setup Q moves world (Close c time) refused sized =
    let step = Close c time in
    let idle = moves.idles world step refused in
    unless setup world step refused (Q world step refused) (not (is_client world c)) NoSuch _ (idle NoSuch) (λ here.
    unless setup world step refused (Q world step refused) (client_of c world).closed Ended _ (idle Ended) (λ on.
    unless setup world step refused (Q world step refused) (node_at c.node world).down Down _ (idle Down) (λ up.
    moves.closes world c time refused (record { client = a_client world c (not-false (is_client world c) here); unclosed = on; up = up }))))
each_step setup Q moves world (Refuse n) refused sized =
    let step = Refuse n in
    let idle = moves.idles world step refused in
    unless setup world step refused (Q world step refused) (not (is_node setup n)) NoSuch _ (idle NoSuch) (λ here.
    unless setup world step refused (Q world step refused) (node_at n world).down Down _ (idle Down) (λ up.
    moves.refuses world n refused (record { there = is_there setup world n sized here; up = up })))
each_step setup Q moves world (Revive n f) refused sized =
    let step = Revive n f in
    let node = node_at n world in
    let donor = node_at f world in
    let idle = moves.idles world step refused in
    let holds = list_any is_true node.unfilled in
    let batch = list_any has_batch node.workers in
    let came = λ (o : Outcome). Q world step refused o (effect_by o setup world step refused) in
    let R = λ (o : Outcome). came (with_copy refused o) in
    unless_it R (not (is_node setup n && is_node setup f)) NoSuch _ (idle NoSuch) (λ here.
    unless_it R donor.down Down _ (idle Down) (λ up.
    unless_it R (is_busy node) Busy _ (idle Busy) (λ free.
    unless_it R (not node.down) Nothing _ (idle Nothing) (λ down.
    unless_it R (not (node.passed == donor.passed)) NotYet _ (idle NotYet) (λ even.
    let both = and_parts (is_node setup n) (is_node setup f) (not-false (is_node setup n && is_node setup f) here) in
    let first = or_parts node.fetched (holds || batch) free in
    let second = or_parts holds batch first.1 in
    cond_both refused.copy (Idle NoMemory) Done came (λ copy. idle NoMemory)
    (λ made. moves.revives world n f refused (record {
      there = is_there setup world n sized (ap not both.0);
      donor = is_there setup world f sized (ap not both.1);
      up = up;
      free = first.0;
      filled = second.0;
      idle = second.1;
      down = not-false node.down down;
      even = eqb-true node.passed donor.passed (not-false (node.passed == donor.passed) even);
    })))))))

-- a step that isn't enabled came to nothing, whatever was refused
copy_idle : (refused : Refused) (o : Outcome) → is_done o ≡ false → is_done (with_copy refused o) ≡ false
copy_idle refused (Opened c) e = absurd (cc e)
copy_idle refused Done e = absurd (cc e)
copy_idle refused (Idle reason) e = refl

pub came_idle : (setup : Setup) (world : World) (step : Step) (refused : Refused) → is_done (outcome setup world step) ≡ false
    → is_done (came_to setup world step refused) ≡ false
came_idle setup world (Open n w) refused e = e
came_idle setup world (Feed c time bytes) refused e = e
came_idle setup world (Post n w) refused e = e
came_idle setup world (Lift n w) refused e = e
came_idle setup world (Reserve n) refused e = e
came_idle setup world (Fill n t) refused e = e
came_idle setup world (Fetch n) refused e = e
came_idle setup world (Apply n) refused e = e
came_idle setup world (Look n) refused e = e
came_idle setup world (Answer n w) refused e = e
came_idle setup world (Collect n w) refused e = e
came_idle setup world (Close c time) refused e = e
came_idle setup world (Refuse n) refused e = e
came_idle setup world (Revive n f) refused e = copy_idle refused (outcome setup world (Revive n f)) e

-- and where nothing was refused, each came to its outcome
copy_made : (o : Outcome) → with_copy nothing_refused o ≡ o
copy_made (Opened c) = refl
copy_made Done = refl
copy_made (Idle reason) = refl

pub came_plainly : (setup : Setup) (world : World) (step : Step) → came_to setup world step nothing_refused ≡ outcome setup world step
came_plainly setup world (Open n w) = refl
came_plainly setup world (Feed c time bytes) = refl
came_plainly setup world (Post n w) = refl
came_plainly setup world (Lift n w) = refl
came_plainly setup world (Reserve n) = refl
came_plainly setup world (Fill n t) = refl
came_plainly setup world (Fetch n) = refl
came_plainly setup world (Apply n) = refl
came_plainly setup world (Look n) = refl
came_plainly setup world (Answer n w) = refl
came_plainly setup world (Collect n w) = refl
came_plainly setup world (Close c time) = refl
came_plainly setup world (Refuse n) = refl
came_plainly setup world (Revive n f) = copy_made (outcome setup world (Revive n f))

-- a node that was put in its place, and the others
pub node_here : (n : ℕ) (node : Node) (world : World) → n < length world.nodes → node_at n (with_node n node world) ≡ node
node_here n node world there = get_or-set_same world.nodes n node no_node there

pub node_other : (n m : ℕ) (node : Node) (world : World) → m ≢ n → node_at m (with_node n node world) ≡ node_at m world
node_other n m node world other = get_or-set_other world.nodes n m node no_node other

-- what holds of each node goes on holding, where it holds of the node that was put
pub each_with : (P : ℕ → Node → Type 0) (n : ℕ) (node : Node) (world : World) → n < length world.nodes → P n node
    → ((m : ℕ) → m < length world.nodes → P m (node_at m world))
    → (m : ℕ) → m < length (with_node n node world).nodes → P m (node_at m (with_node n node world))
each_with P n node world there here each m at =
    let long = length-set world.nodes n node in
    elim (eqb_tells m n) [
      | inl e ↦ subst (λ (k : ℕ). P k (node_at k (with_node n node world))) (sym e.1) (subst (P n) (sym (node_here n node world there)) here)
      | inr e ↦ subst (P m) (sym (node_other n m node world e.1)) (each m (omega arith))
    ]

-- as many nodes
pub as_many : (n : ℕ) (node : Node) (world : World) → length (with_node n node world).nodes ≡ length world.nodes
as_many n node world = length-set world.nodes n node

-- a world keeps its size with a node of the same size
sized_with : (setup : Setup) (n : ℕ) (node : Node) (world : World) → n < length world.nodes → AreSized setup world
    → IsSized setup node → AreSized setup (with_node n node world)
sized_with setup n node world there sized one =
    record { nodes = as_many n node world ∙ sized.nodes; each = each_with (λ m. IsSized setup) n node world there one sized.each }

-- the workers of a node that jobs were executed for
as_executed : (w : ℕ) (clients : List Client) (jobs : Jobs) (workers : List Worker) → length (executed_from w clients jobs workers) ≡ length workers
as_executed w clients jobs [] = refl
as_executed w clients jobs (worker ∷ workers) = ap suc (as_executed (suc w) clients jobs workers)

-- a node keeps its size when it passes an entry
sized_advanced : (setup : Setup) (refused : Refused) (n : ℕ) (log : List Logged) (node : Node) → IsSized setup node → IsSized setup (advanced refused n log node)
sized_advanced setup refused n log node s =
    let entry = next_entry log node in
    by_advance (IsSized setup) refused n log node (λ down. record { workers = s.workers; cells = s.cells })
    (λ up. record { workers = length-map node.workers _ ∙ s.workers; cells = s.cells })
    (λ up. cond_both (is_owed n entry node) _ _ (λ (x : Node). IsSized setup (passing (record x {
      applied = suc node.applied;
      server = after_all node.server (entry_items entry.jobs);
      clients = map (delivered_to refused.cuts node.passed (emitted_all node.server (entry_items entry.jobs))) node.clients;
    })))
    (λ own. record { workers = as_executed 0 node.clients entry.jobs node.workers ∙ s.workers; cells = s.cells })
    (λ other. record { workers = s.workers; cells = s.cells }))

sized_advanced_by : (setup : Setup) (count : ℕ) (refused : Refused) (n : ℕ) (log : List Logged) (node : Node) → IsSized setup node
    → IsSized setup (advanced_by count refused n log node)
sized_advanced_by setup zero refused n log node s = s
sized_advanced_by setup (suc count) refused n log node s =
    sized_advanced_by setup count refused n log (advanced refused n log node) (sized_advanced setup refused n log node s)

-- what holds after a look, by whether the node fell
pub by_look : (P : World → Type 0) (refused : Refused) (n : ℕ) (world : World) (ahead : Node)
    → ahead ≡ advanced_by (tail_of world - (node_at n world).passed) refused n (log_of world.taken) (node_at n world)
    → (ahead.down ≡ true → P (with_node n ahead world))
    → (ahead.down ≡ false → P (record (with_node n (with_reads refused.cuts (tail_of world) ahead) world) {
      taken = world.taken ++ Reads n ahead.applied (read_jobs ahead.waiting) ∷ [];
    }))
    → P (looked refused n world)
by_look P refused n world ahead is fallen on =
    let at = λ (a : Node). cond a.down (with_node n a world) (record (with_node n (with_reads refused.cuts (tail_of world) a) world) {
      taken = world.taken ++ Reads n a.applied (read_jobs a.waiting) ∷ [];
    }) in
    subst (λ (a : Node). P (at a)) is (cond_both ahead.down _ _ P fallen on)

-- sizes stay
pub sized_moves : (setup : Setup) → Moves setup (λ world step refused outcome after. AreSized setup world → AreSized setup after)
sized_moves setup = record {
  idles = λ world step refused reason sized. sized;
  opens = λ world n w refused may sized.
      let s = sized.each n may.worker.there in
      sized_with setup n _ world may.worker.there sized (record { workers = s.workers; cells = s.cells });
  feeds = λ world c time bytes refused may sized.
      let s = sized.each c.node may.client.there in
      let now = sized_with setup c.node (fed_node c time bytes (node_at c.node world)) world may.client.there sized
      (record { workers = length-set (node_at c.node world).workers _ _ ∙ s.workers; cells = s.cells }) in
      record { nodes = now.nodes; each = now.each };
  posts = λ world n w refused may sized.
      let s = sized.each n may.worker.there in
      let now = sized_with setup n (with_worker w (posted_worker (worker_at w (node_at n world))) (node_at n world)) world may.worker.there sized
      (record { workers = length-set (node_at n world).workers _ _ ∙ s.workers; cells = s.cells }) in
      record { nodes = now.nodes; each = now.each };
  lifts = λ world n w refused may sized.
      let s = sized.each n may.worker.there in
      sized_with setup n _ world may.worker.there sized (record { workers = length-set (node_at n world).workers _ _ ∙ s.workers; cells = s.cells });
  reserves = λ world n refused may sized.
      let s = sized.each n may.there in
      let node = node_at n world in
      let now = sized_with setup n (record node { waiting = left_by_entry node.waiting; at = tail_of world; unfilled = replicate setup.nodes true }) world may.there
      sized (record { workers = s.workers; cells = length-replicate setup.nodes true }) in
      record { nodes = now.nodes; each = now.each };
  fills = λ world n t refused may sized.
      let s = sized.each n may.there in
      sized_with setup n _ world may.there sized (record { workers = s.workers; cells = length-set (node_at n world).unfilled _ _ ∙ s.cells });
  fetches = λ world n refused may sized.
      let s = sized.each n may.there in
      sized_with setup n _ world may.there sized (record { workers = s.workers; cells = s.cells });
  applies = λ world n refused may sized.
      sized_with setup n _ world may.there sized (sized_advanced setup refused n (log_of world.taken) (node_at n world) (sized.each n may.there));
  looks = λ world n refused may sized.
      let node = node_at n world in
      let count = tail_of world - node.passed in
      let ahead = advanced_by count refused n (log_of world.taken) node in
      let s = sized_advanced_by setup count refused n (log_of world.taken) node (sized.each n may.there) in
      let now = sized_with setup n (with_reads refused.cuts (tail_of world) ahead) world may.there sized
      (record { workers = as_executed 0 ahead.clients (read_jobs ahead.waiting) ahead.workers ∙ s.workers; cells = s.cells }) in
      by_look (AreSized setup) refused n world ahead refl (λ down. sized_with setup n ahead world may.there sized s)
      (λ up. record { nodes = now.nodes; each = now.each });
  answers = λ world n w refused may sized.
      let s = sized.each n may.worker.there in
      sized_with setup n _ world may.worker.there sized (record { workers = length-set (node_at n world).workers _ _ ∙ s.workers; cells = s.cells });
  collects = λ world n w refused may sized.
      let s = sized.each n may.worker.there in
      sized_with setup n _ world may.worker.there sized (record { workers = length-set (node_at n world).workers _ _ ∙ s.workers; cells = s.cells });
  closes = λ world c time refused may sized.
      let s = sized.each c.node may.client.there in
      let now = sized_with setup c.node (closed_node c time (node_at c.node world)) world may.client.there sized
      (record { workers = length-set (node_at c.node world).workers _ _ ∙ s.workers; cells = s.cells }) in
      record { nodes = now.nodes; each = now.each };
  refuses = λ world n refused may sized.
      let s = sized.each n may.there in
      sized_with setup n _ world may.there sized (record { workers = s.workers; cells = s.cells });
  revives = λ world n f refused may sized.
      let s = sized.each n may.there in
      sized_with setup n _ world may.there sized (record { workers = s.workers; cells = s.cells });
}

-- at first
pub fresh_at : (setup : Setup) (n : ℕ) → n < length (fresh setup).nodes → node_at n (fresh setup) ≡ fresh_node setup
fresh_at setup n there =
    let long = length-replicate setup.nodes (fresh_node setup) in
    get_or-replicate setup.nodes n (fresh_node setup) no_node (omega arith)

pub fresh_sized : (setup : Setup) → AreSized setup (fresh setup)
fresh_sized setup = record {
  nodes = length-replicate setup.nodes (fresh_node setup);
  each = λ n there.
      subst (IsSized setup) (sym (fresh_at setup n there))
      (record { workers = length-replicate setup.workers fresh_worker; cells = length-replicate setup.nodes false });
}

-- a step keeps the sizes
pub step_sized : (setup : Setup) (world : World) (step : Step) (refused : Refused) → AreSized setup world → AreSized setup (after_step setup world step refused)
step_sized setup world step refused sized =
    each_step setup (λ world step refused outcome after. AreSized setup world → AreSized setup after) (sized_moves setup) world step refused sized sized

-- what each enabled step keeps
pub record Keeps (setup : Setup) (P : World → Type 0) : Type 0 where
  pub opens : (world : World) (n w : ℕ) → MayOpen setup world n w → P world → P (opened setup n w world)
  pub feeds : (world : World) (c : Connection) (time : ℕ) (bytes : Bytes) → MayFeed world c → P world
      → P (effect setup world (Feed c time bytes) nothing_refused)
  pub posts : (world : World) (n w : ℕ) → MayPost setup world n w → P world → P (effect setup world (Post n w) nothing_refused)
  pub lifts : (world : World) (n w : ℕ) → MayLift setup world n w → P world → P (effect setup world (Lift n w) nothing_refused)
  pub reserves : (world : World) (n : ℕ) → MayReserve setup world n → P world → P (reserved setup n world)
  pub fills : (world : World) (n t : ℕ) → MayFill setup world n t → P world → P (effect setup world (Fill n t) nothing_refused)
  pub fetches : (world : World) (n : ℕ) → MayFetch world n → P world → P (effect setup world (Fetch n) nothing_refused)
  pub applies : (world : World) (n : ℕ) (refused : Refused) → MayApply world n → P world → P (effect setup world (Apply n) refused)
  pub looks : (world : World) (n : ℕ) (refused : Refused) → MayLook world n → P world → P (looked refused n world)
  pub answers : (world : World) (n w : ℕ) → MayAnswer setup world n w → P world → P (effect setup world (Answer n w) nothing_refused)
  pub collects : (world : World) (n w : ℕ) → MayCollect setup world n w → P world → P (effect setup world (Collect n w) nothing_refused)
  pub closes : (world : World) (c : Connection) (time : ℕ) → MayClose world c → P world → P (closed c time world)
  pub refuses : (world : World) (n : ℕ) → MayRefuse world n → P world → P (effect setup world (Refuse n) nothing_refused)
  pub revives : (world : World) (n f : ℕ) → MayRevive world n f → P world → P (effect setup world (Revive n f) nothing_refused)

-- an invariant of worlds as a relation of a step
pub moves_of : (setup : Setup) (P : World → Type 0) → Keeps setup P → Moves setup (λ world step refused outcome after. P world → P after)
moves_of setup P keeps = record {
  idles = λ world step refused reason p. p;
  opens = λ world n w refused may. keeps.opens world n w may;
  feeds = λ world c time bytes refused may. keeps.feeds world c time bytes may;
  posts = λ world n w refused may. keeps.posts world n w may;
  lifts = λ world n w refused may. keeps.lifts world n w may;
  reserves = λ world n refused may. keeps.reserves world n may;
  fills = λ world n t refused may. keeps.fills world n t may;
  fetches = λ world n refused may. keeps.fetches world n may;
  applies = keeps.applies;
  looks = keeps.looks;
  answers = λ world n w refused may. keeps.answers world n w may;
  collects = λ world n w refused may. keeps.collects world n w may;
  closes = λ world c time refused may. keeps.closes world c time may;
  refuses = λ world n refused may. keeps.refuses world n may;
  revives = λ world n f refused may. keeps.revives world n f may;
}

-- and a relation of each step as an invariant of worlds
pub keeps_of : (setup : Setup) (P : World → Type 0) → Moves setup (λ world step refused outcome after. P world → P after) → Keeps setup P
keeps_of setup P moves = record {
  opens = λ world n w may. moves.opens world n w nothing_refused may;
  feeds = λ world c time bytes may. moves.feeds world c time bytes nothing_refused may;
  posts = λ world n w may. moves.posts world n w nothing_refused may;
  lifts = λ world n w may. moves.lifts world n w nothing_refused may;
  reserves = λ world n may. moves.reserves world n nothing_refused may;
  fills = λ world n t may. moves.fills world n t nothing_refused may;
  fetches = λ world n may. moves.fetches world n nothing_refused may;
  applies = λ world n refused may. moves.applies world n refused may;
  looks = λ world n refused may. moves.looks world n refused may;
  answers = λ world n w may. moves.answers world n w nothing_refused may;
  collects = λ world n w may. moves.collects world n w nothing_refused may;
  closes = λ world c time may. moves.closes world c time nothing_refused may;
  refuses = λ world n may. moves.refuses world n nothing_refused may;
  revives = λ world n f may. moves.revives world n f nothing_refused may;
}

-- two invariants at once
pub keeps_both : (setup : Setup) (P Q : World → Type 0) → Keeps setup P → Keeps setup Q → Keeps setup (λ world. P world × Q world)
keeps_both setup P Q p q = record {
  opens = λ world n w may b. (p.opens world n w may b.0, q.opens world n w may b.1);
  feeds = λ world c time bytes may b. (p.feeds world c time bytes may b.0, q.feeds world c time bytes may b.1);
  posts = λ world n w may b. (p.posts world n w may b.0, q.posts world n w may b.1);
  lifts = λ world n w may b. (p.lifts world n w may b.0, q.lifts world n w may b.1);
  reserves = λ world n may b. (p.reserves world n may b.0, q.reserves world n may b.1);
  fills = λ world n t may b. (p.fills world n t may b.0, q.fills world n t may b.1);
  fetches = λ world n may b. (p.fetches world n may b.0, q.fetches world n may b.1);
  applies = λ world n refused may b. (p.applies world n refused may b.0, q.applies world n refused may b.1);
  looks = λ world n refused may b. (p.looks world n refused may b.0, q.looks world n refused may b.1);
  answers = λ world n w may b. (p.answers world n w may b.0, q.answers world n w may b.1);
  collects = λ world n w may b. (p.collects world n w may b.0, q.collects world n w may b.1);
  closes = λ world c time may b. (p.closes world c time may b.0, q.closes world c time may b.1);
  refuses = λ world n may b. (p.refuses world n may b.0, q.refuses world n may b.1);
  revives = λ world n f may b. (p.revives world n f may b.0, q.revives world n f may b.1);
}

-- any events keep it
each_from : (setup : Setup) (P : World → Type 0) → Keeps setup P → (events : List Event) (world : World) → AreSized setup world → P world
    → P (fold (after_event setup) world events)
each_from setup P keeps [] world sized p = p
each_from setup P keeps (e ∷ events) world sized p =
    each_from setup P keeps events (after_event setup world e) (step_sized setup world e.step e.refused sized)
    (each_step setup (λ world step refused outcome after. P world → P after) (moves_of setup P keeps) world e.step e.refused sized p)

-- so it holds of each world
pub each_world : (setup : Setup) (P : World → Type 0) → P (fresh setup) → Keeps setup P → (events : List Event) → P (world_after setup events)
each_world setup P first keeps events = each_from setup P keeps events (fresh setup) (fresh_sized setup) first

-- each world has its size
sized_from : (setup : Setup) (events : List Event) (world : World) → AreSized setup world → AreSized setup (fold (after_event setup) world events)
sized_from setup [] world sized = sized
sized_from setup (e ∷ events) world sized = sized_from setup events (after_event setup world e) (step_sized setup world e.step e.refused sized)

pub each_sized : (setup : Setup) (events : List Event) → AreSized setup (world_after setup events)
each_sized setup events = sized_from setup events (fresh setup) (fresh_sized setup)

-- An invariant of events and the world that they led to: an event comes behind the others, with this outcome, what it handed out and the answer that
-- it took.
pub record Comes (world : World) (step : Step) (refused : Refused) (outcome : Outcome) (e : Event) : Type 0 where
  pub step_is : e.step ≡ step
  pub refused_is : e.refused ≡ refused
  pub outcome_is : e.outcome ≡ outcome
  pub handed_is : e.handed ≡ cond (is_done outcome) (handed_by world step) []
  pub answer_is : e.answer ≡ cond (is_done outcome) (answer_by world step) None

abbrev pub Carries : (List Event → World → Type 0) → World → Step → Refused → Outcome → World → Type 0
Carries P world step refused outcome after = (events : List Event) (e : Event) → Comes world step refused outcome e → P events world → P (events ++ e ∷ []) after

past_from : (setup : Setup) (P : List Event → World → Type 0) → Moves setup (Carries P) → (before events : List Event) (world : World)
    → AreSized setup world → AreEvents setup world events → P before world → P (before ++ events) (fold (after_event setup) world events)
past_from setup P moves before [] world sized are p = subst (λ (es : List Event). P es world) (sym (append-nil before)) p
past_from setup P moves before (e ∷ events) world sized are p =
    let is = are.0 in
    let now = each_step setup (Carries P) moves world e.step e.refused sized before e
    (record {
      step_is = refl;
      refused_is = refl;
      outcome_is = is.outcome_is;
      handed_is = is.handed_is ∙ ap (λ (o : Outcome). cond (is_done o) (handed_by world e.step) []) is.outcome_is;
      answer_is = is.answer_is ∙ ap (λ (o : Outcome). cond (is_done o) (answer_by world e.step) None) is.outcome_is;
    }) p in
    subst (λ (es : List Event). P es (fold (after_event setup) (after_event setup world e) events)) (append_assoc before (e ∷ []) events)
    (past_from setup P moves (before ++ e ∷ []) events (after_event setup world e) (step_sized setup world e.step e.refused sized) are.1 now)

-- so it holds of each past
pub each_past : (setup : Setup) (P : List Event → World → Type 0) → P [] (fresh setup) → Moves setup (Carries P) → (events : List Event)
    → AreEvents setup (fresh setup) events → P events (world_after setup events)
each_past setup P first moves events are = past_from setup P moves [] events (fresh setup) (fresh_sized setup) are first

-- the first of some events are a past too
pub are_first : (setup : Setup) (world : World) (before later : List Event) → AreEvents setup world (before ++ later) → AreEvents setup world before
are_first setup world [] later are = tt
are_first setup world (e ∷ before) later are = (are.0, are_first setup (after_event setup world e) before later are.1)

-- and the later ones go on from the world that they led to
pub are_last : (setup : Setup) (world : World) (before later : List Event) → AreEvents setup world (before ++ later)
    → AreEvents setup (fold (after_event setup) world before) later
are_last setup world [] later are = are
are_last setup world (e ∷ before) later are = are_last setup (after_event setup world e) before later are.1

pub world_after-append : (setup : Setup) (world : World) (before later : List Event)
    → fold (after_event setup) world (before ++ later) ≡ fold (after_event setup) (fold (after_event setup) world before) later
world_after-append setup world [] later = refl
world_after-append setup world (e ∷ before) later = world_after-append setup (after_event setup world e) before later

-- what each step keeps beside what holds of every world
abbrev pub Beside : Setup → (World → Type 0) → (World → Type 0) → World → Step → Refused → Outcome → World → Type 0
Beside setup B P world step refused outcome after = AreSized setup world → B world → P world → P after

beside_from : (setup : Setup) (B P : World → Type 0) → Keeps setup B → Moves setup (Beside setup B P) → (events : List Event) (world : World)
    → AreSized setup world → B world → P world → P (fold (after_event setup) world events)
beside_from setup B P keeps moves [] world sized b p = p
beside_from setup B P keeps moves (e ∷ events) world sized b p =
    beside_from setup B P keeps moves events (after_event setup world e) (step_sized setup world e.step e.refused sized)
    (each_step setup (λ world step refused outcome after. B world → B after) (moves_of setup B keeps) world e.step e.refused sized b)
    (each_step setup (Beside setup B P) moves world e.step e.refused sized sized b p)

pub each_beside : (setup : Setup) (B P : World → Type 0) → B (fresh setup) → Keeps setup B → P (fresh setup) → Moves setup (Beside setup B P)
    → (events : List Event) → P (world_after setup events)
each_beside setup B P b keeps p moves events = beside_from setup B P keeps moves events (fresh setup) (fresh_sized setup) b p
