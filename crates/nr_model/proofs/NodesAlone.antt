-- A node that is alone never comes back: there is no other whose server it could copy.
use Rattle.std.proofs.Common.{◌≡◌, ℕ, ◌-◌, ◌<◌, ◌≤◌, true, false, not, List, length, refl, ap, ◌∙◌, arith, replicate, slice_set}
use Rattle.std.proofs.lemmas.Bool.{both_ways}
use Rattle.nr_model.specs.Entries.{left_by_entry}
use Rattle.nr_model.specs.Connections.{Setup}
use Rattle.nr_model.specs.Nodes.{Answered, Node, World, node_at, worker_at, with_node, with_worker, log_of, tail_of}
use Rattle.nr_model.specs.Nodes.Steps.{fed_node, posted_worker, lifted_node, advanced_by, with_reads, collected_node, closed_node}
use Rattle.nr_model.specs.Nodes.Pasts.{Event, world_after}
use Rattle.nr_model.proofs.NodesSteps.{Keeps, as_many, each_world, each_with, by_look, fresh_at, fresh_sized, each_sized}
use Rattle.nr_model.proofs.NodesOwnAdvance.{advanced_since, each_advance}

-- there is one node at most, and it never came back
record IsAlone (world : World) : Type 0 where
  few : length world.nodes ≤ 1
  each : (n : ℕ) → n < length world.nodes → (node_at n world).since ≡ 0

alone_with : (n : ℕ) (node : Node) (world : World) → n < length world.nodes → node.since ≡ (node_at n world).since → IsAlone world
    → IsAlone (with_node n node world)
alone_with n node world there same p =
    let long = as_many n node world in
    let few = p.few in
    record {
      few = omega arith;
      each = λ m at. each_with (λ k x. x.since ≡ 0) n node world there (same ∙ p.each n there) p.each m at;
    }

-- each step
keeps_alone : (setup : Setup) → Keeps setup IsAlone
keeps_alone setup = record {
  opens = λ world n w may p. alone_with n _ world may.worker.there refl p;
  feeds = λ world c time bytes may p.
      let now = alone_with c.node (fed_node c time bytes (node_at c.node world)) world may.client.there refl p in
      record { few = now.few; each = now.each };
  posts = λ world n w may p.
      let now = alone_with n (with_worker w (posted_worker (worker_at w (node_at n world))) (node_at n world)) world may.worker.there refl p in
      record { few = now.few; each = now.each };
  lifts = λ world n w may p. alone_with n (lifted_node w (node_at n world)) world may.worker.there refl p;
  reserves = λ world n may p.
      let node = node_at n world in
      let now = alone_with n (record node { waiting = left_by_entry node.waiting; at = tail_of world; unfilled = replicate setup.nodes true }) world may.there refl p in
      record { few = now.few; each = now.each };
  fills = λ world n t may p. alone_with n (record (node_at n world) { unfilled = slice_set (node_at n world).unfilled t false }) world may.there refl p;
  fetches = λ world n may p. alone_with n (record (node_at n world) { fetched = true }) world may.there refl p;
  applies = λ world n refused may p. alone_with n _ world may.there (advanced_since refused n (log_of world.taken) (node_at n world)) p;
  looks = λ world n refused may p.
      let node = node_at n world in
      let tail = tail_of world in
      let log = log_of world.taken in
      let count = tail - node.passed in
      let ahead = advanced_by count refused n log node in
      let same = each_advance (λ x. x.since ≡ node.since) refused n log (λ x e. advanced_since refused n log x ∙ e) count node refl in
      let read = alone_with n (with_reads refused.cuts tail ahead) world may.there same p in
      by_look IsAlone refused n world ahead refl (λ down. alone_with n ahead world may.there same p) (λ up. record { few = read.few; each = read.each });
  answers = λ world n w may p.
      let node = node_at n world in
      alone_with n (with_worker w (record (worker_at w node) { slot = Answered (not node.down) }) node) world may.worker.there refl p;
  collects = λ world n w may p. alone_with n (collected_node w (node_at n world)) world may.worker.there refl p;
  closes = λ world c time may p.
      let now = alone_with c.node (closed_node c time (node_at c.node world)) world may.client.there refl p in
      record { few = now.few; each = now.each };
  refuses = λ world n may p. alone_with n (record (node_at n world) { refused = true }) world may.there refl p;
  revives = λ world n f may p.
      let few = p.few in
      let there = may.there in
      let donor = may.donor in
      let same : f ≡ n = omega arith in
      absurd (both_ways (node_at f world).down may.up (ap (λ (k : ℕ). (node_at k world).down) same ∙ may.down));
}

-- so it is in every world of one node
pub alone_since : (setup : Setup) (events : List Event) → setup.nodes ≤ 1 → (n : ℕ) → n < setup.nodes → (node_at n (world_after setup events)).since ≡ 0
alone_since setup events few n there =
    let long = (each_sized setup events).nodes in
    let first = (fresh_sized setup).nodes in
    (each_world setup IsAlone (record {
      few = omega arith;
      each = λ m at. ap (λ (x : Node). x.since) (fresh_at setup m at);
    }) (keeps_alone setup) events).each n (omega arith)
