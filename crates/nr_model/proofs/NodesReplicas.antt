-- The replica of each node that is up is the sequential Redis after the node's part.
use Rattle.std.proofs.Common.{◌≡◌, ℕ, ◌<◌, true, List, length, ap, sym, ◌∙◌, arith}
use Rattle.std.proofs.lemmas.Bool.{not-true}
use Rattle.nr_model.specs.Servers as servers
use Rattle.nr_model.specs.Servers.{database_in, subscribers_in, is_spoiled_in}
use Rattle.nr_model.specs.Connections.{Setup, Handed}
use Rattle.nr_model.specs.Nodes.{World, fresh, node_at, sequence_of, part_of}
use Rattle.nr_model.specs.Nodes.Pasts.{Event, world_after, AreEvents}
use Rattle.nr_model.specs.Nodes.Explained.{is_up, IsReplica}
use Rattle.nr_model.proofs.Serving.{server_is_redis}
use Rattle.nr_model.proofs.NodesSteps.{each_sized}
use Rattle.nr_model.proofs.NodesPartsEmitted.{part_updates}
use Rattle.nr_model.proofs.NodesAccountsMoves.{IsKnown, AreKept}
use Rattle.nr_model.proofs.NodesAccounts.{AreKnown, each_kept}

-- a node that is up
pub replica : (handed : List Handed) (world : World) (r : ℕ) → r < length world.nodes → is_up r world ≡ true → IsKnown world
    → AreKept handed world.taken world → IsReplica (sequence_of world) r world
replica handed world r there up known k =
    let node = node_at r world in
    let u = (k.each r there).up (not-true node.down up) in
    let part = part_of r world in
    record {
      keyspace = ap (λ (s : servers.Server). s.keyspace) u.server_is ∙ sym (server_is_redis.keyspace part);
      databases = λ c. ap (λ (s : servers.Server). database_in s.databases c) u.server_is ∙ sym (server_is_redis.databases part c);
      subscribers = λ kind name.
          ap (λ (s : servers.Server). subscribers_in s.held kind name) u.server_is ∙ sym (server_is_redis.subscribers part kind name);
      spoiled = λ c now. ap (λ (s : servers.Server). is_spoiled_in s c now) u.server_is ∙ sym (server_is_redis.spoiled part c now);
      prefix = part_updates r node.applied world.taken u.within known.run;
    }

-- behind every past
pub each_replica : (setup : Setup) → AreKnown setup → (events : List Event) → AreEvents setup (fresh setup) events → (r : ℕ)
    → r < setup.nodes → is_up r (world_after setup events) ≡ true
    → IsReplica (sequence_of (world_after setup events)) r (world_after setup events)
each_replica setup known events are r below up =
    let world = world_after setup events in
    let long = (each_sized setup events).nodes in
    let there : r < length world.nodes = omega arith in
    replica _ world r there up (known events are) (each_kept setup known events are)
