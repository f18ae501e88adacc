-- A node that is down has dropped its jobs: none waits, and none is pending at its workers.
use Rattle.std.proofs.Common.{◌≡◌, ℕ, ◌-◌, ◌<◌, true, false, not, List, [], length, replicate, refl, ap, sym, ◌∙◌, slice_set}
use Rattle.std.proofs.lemmas.Bool.{both_ways, cond_both}
use Rattle.nr_model.specs.Entries.{left_by_entry}
use Rattle.nr_model.specs.Connections.{Setup}
use Rattle.nr_model.specs.Nodes.{Worker, fresh_worker, Answered, Node, Logged, World, fresh, node_at, worker_at, with_node, with_worker, log_of, tail_of}
use Rattle.nr_model.specs.Nodes.Steps.{Cut, Refused, is_owed, fed_node, posted_worker, lifted_node, fallen, passing, advanced, advanced_by, with_entry, with_reads, cleared, collected_node, closed_node, revived}
use Rattle.nr_model.specs.Nodes.Pasts.{Event, world_after}
use Rattle.nr_model.proofs.NodesSteps.{Keeps, each_world, each_with, by_look, fresh_at}
use Rattle.nr_model.proofs.NodesOwnAdvance.{next_entry, by_advance, each_advance}
use Rattle.nr_model.proofs.NodesOwnShape.{fallen_at}
use Rattle.nr_model.proofs.NodesExecutedNodes.{at_set}

-- no job of a node waits anywhere
pub record IsDropped (node : Node) : Type 0 where
  pub waiting : node.waiting ≡ []
  pub pending : (w : ℕ) → (worker_at w node).pending ≡ []

-- where it is down
abbrev pub DropsDown : Node → Type 0
DropsDown node = node.down ≡ true → IsDropped node

abbrev pub AreDropped : World → Type 0
AreDropped world = (n : ℕ) → n < length world.nodes → DropsDown (node_at n world)

-- another node in its place
dropped_with : (n : ℕ) (node : Node) (world : World) → n < length world.nodes → DropsDown node → AreDropped world → AreDropped (with_node n node world)
dropped_with n node world there one each = each_with (λ m. DropsDown) n node world there one each

-- one that is up
up_with : (n : ℕ) (node : Node) (world : World) → n < length world.nodes → node.down ≡ false → AreDropped world → AreDropped (with_node n node world)
up_with n node world there up each = dropped_with n node world there (λ down. absurd (both_ways node.down up down)) each

-- a worker with the same pending jobs
dropped_worker : (w : ℕ) (worker : Worker) (node : Node) → worker.pending ≡ (worker_at w node).pending → IsDropped node → IsDropped (with_worker w worker node)
dropped_worker w worker node same d = record {
  waiting = d.waiting;
  pending = λ v.
      at_set (λ u (x : Worker). x.pending ≡ []) node.workers w worker fresh_worker (λ h. same ∙ d.pending w) (λ h. d.pending w) (λ u other. d.pending u) v;
}

-- a node that falls drops them
dropped_fallen : (node : Node) → IsDropped (passing (fallen node))
dropped_fallen node = record { waiting = refl; pending = λ w. ap (λ (x : Worker). x.pending) (fallen_at node.workers w) }

entry_down : (cuts : List Cut) (n : ℕ) (entry : Logged) (node : Node) → (with_entry cuts n entry node).down ≡ node.down
entry_down cuts n entry node = cond_both (is_owed n entry node) _ _ (λ (x : Node). x.down ≡ node.down) (λ own. refl) (λ other. refl)

drops_advanced : (refused : Refused) (n : ℕ) (log : List Logged) (node : Node) → DropsDown node → DropsDown (advanced refused n log node)
drops_advanced refused n log node d =
    by_advance DropsDown refused n log node
    (λ down f. let before = d down in record { waiting = before.waiting; pending = before.pending })
    (λ up f. dropped_fallen node)
    (λ up f. let same = entry_down refused.cuts n (next_entry log node) node in absurd (both_ways node.down up (sym same ∙ f)))

-- each step
pub keeps_dropped : (setup : Setup) → Keeps setup AreDropped
keeps_dropped setup = record {
  opens = λ world n w may p. up_with n _ world may.worker.there may.up p;
  feeds = λ world c time bytes may p. up_with c.node (fed_node c time bytes (node_at c.node world)) world may.client.there may.up p;
  posts = λ world n w may p.
      up_with n (with_worker w (posted_worker (worker_at w (node_at n world))) (node_at n world)) world may.worker.there may.up p;
  lifts = λ world n w may p. up_with n (lifted_node w (node_at n world)) world may.worker.there may.up p;
  reserves = λ world n may p.
      let node = node_at n world in
      up_with n (record node { waiting = left_by_entry node.waiting; at = tail_of world; unfilled = replicate setup.nodes true }) world may.there may.up p;
  fills = λ world n t may p.
      let node = node_at n world in
      dropped_with n (record node { unfilled = slice_set node.unfilled t false }) world may.there
      (λ down. let d = p n may.there down in record { waiting = d.waiting; pending = d.pending }) p;
  fetches = λ world n may p.
      dropped_with n (record (node_at n world) { fetched = true }) world may.there
      (λ down. let d = p n may.there down in record { waiting = d.waiting; pending = d.pending }) p;
  applies = λ world n refused may p.
      dropped_with n _ world may.there (drops_advanced refused n (log_of world.taken) (node_at n world) (p n may.there)) p;
  looks = λ world n refused may p.
      let node = node_at n world in
      let count = tail_of world - node.passed in
      let ahead = advanced_by count refused n (log_of world.taken) node in
      let d = each_advance DropsDown refused n (log_of world.taken) (drops_advanced refused n (log_of world.taken)) count node (p n may.there) in
      by_look AreDropped refused n world ahead refl (λ down. dropped_with n ahead world may.there d p)
      (λ up. up_with n (with_reads refused.cuts (tail_of world) ahead) world may.there up p);
  answers = λ world n w may p.
      let node = node_at n world in
      dropped_with n _ world may.worker.there
      (λ down. dropped_worker w (record (worker_at w node) { slot = Answered (not node.down) }) node refl (p n may.worker.there down)) p;
  collects = λ world n w may p.
      let node = node_at n world in
      let worker = worker_at w node in
      dropped_with n (collected_node w node) world may.worker.there
      (λ down.
      let d = dropped_worker w (record worker { slot = cleared worker.slot }) node refl (p n may.worker.there down) in
      record { waiting = d.waiting; pending = d.pending }) p;
  closes = λ world c time may p. up_with c.node (closed_node c time (node_at c.node world)) world may.client.there may.up p;
  revives = λ world n f may p. up_with n (revived (tail_of world) (node_at f world).server (node_at n world)) world may.there refl p;
  refuses = λ world n may p. up_with n (record (node_at n world) { refused = true }) world may.there may.up p;
}

-- at first
pub fresh_dropped : (setup : Setup) → AreDropped (fresh setup)
fresh_dropped setup n there down = absurd (both_ways (node_at n (fresh setup)).down (ap (λ (x : Node). x.down) (fresh_at setup n there)) down)

-- so it holds of each world
pub each_dropped : (setup : Setup) (events : List Event) → AreDropped (world_after setup events)
each_dropped setup events = each_world setup AreDropped (fresh_dropped setup) (keeps_dropped setup) events
