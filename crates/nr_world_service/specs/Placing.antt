-- Where connections are opened: at the nodes in turn, and at the workers of each in turn.
use Rattle.std.specs.Prelude.{◌≡◌, ◌<◌, ℕ, ◌+◌, ◌/◌, ◌%◌, true, List}
use Rattle.nr_model.specs.Items.{Connection}
use Rattle.nr_model.specs.Connections.{Setup}
use Rattle.nr_model.specs.Nodes.{World, node_at, client_of}
use Rattle.nr_model.specs.Nodes.Pasts.{Event, IsPast}
use Rattle.nr_world.specs.WorldState.{WorldState, Shows}
use Rattle.nr_world_service.specs.Stands.{takes_none}

-- the node of the connection that was accepted as this number, and those behind it in turn
abbrev pub node_in_turn : Setup → ℕ → ℕ → ℕ
node_in_turn setup number passed = (number % setup.nodes + passed) % setup.nodes

-- and its worker
abbrev pub worker_in_turn : Setup → ℕ → ℕ
worker_in_turn setup number = (number / setup.nodes) % setup.workers

-- In these worlds, before and after, it was opened at the first node in turn that took one more, and there at its worker.
pub record IsPlacedIn (setup : Setup) (before after : World) (number : ℕ) (c : Connection) : Type 0 where
  pub passed : ℕ
  pub within : passed < setup.nodes
  pub full : (i : ℕ) → i < passed → takes_none setup (node_at (node_in_turn setup number i) before) ≡ true
  pub node : c.node ≡ node_in_turn setup number passed
  pub worker : (client_of c after).worker ≡ worker_in_turn setup number

-- so it is in all worlds that are shown
abbrev pub IsPlaced : WorldState → WorldState → ℕ → Connection → Type 0
IsPlaced old new number c = (before after : World) → Shows old before → Shows new after → IsPlacedIn old.setup before after number c

-- and in those of any past
abbrev pub Places : WorldState → WorldState → ℕ → Connection → Type 0
Places old new number c =
    (events : List Event) (before after : World) → IsPast old.setup events before → Shows old before → Shows new after
    → IsPlacedIn old.setup before after number c

-- a connection was opened at a worker of a node
abbrev pub StandsAt : WorldState → WorldState → ℕ → ℕ → Connection → Type 0
StandsAt old new n w c =
    (events : List Event) (before after : World) → IsPast old.setup events before → Shows old before → Shows new after
    → (c.node ≡ n) × ((client_of c after).worker ≡ w)
