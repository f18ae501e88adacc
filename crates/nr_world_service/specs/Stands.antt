-- How a connection stands.
use Rattle.std.specs.Prelude.{◌≡◌, Bool, true, false, not, ◌||◌, nat_le, cond}
use Rattle.std.specs.List.{list_all}
use Rattle.nr_model.specs.Items.{Connection}
use Rattle.nr_model.specs.Connections.{Setup}
use Rattle.nr_model.specs.Nodes.{Node, World, node_at, client_of}
use Rattle.nr_model.specs.Nodes.Steps.{is_client, in_use}
use Rattle.nr_world.specs.Standing.{has_ended}
use Rattle.nr_world.specs.WorldState.{WorldState, Shows}
use Rattle.nr_service.specs.declared.backend.ConnectionState.{ConnectionState}
use Rattle.nr_service.specs.declared.backend.ConnectionState.TheVariants as standings
use Rattle.nr_world_service.specs.State.{WorldBackendState}

-- in a world: its node is down, or it takes no more bytes, or it takes them
abbrev pub standing_in : World → Connection → ConnectionState
standing_in world c = cond (node_at c.node world).down standings.Down (cond (has_ended world c) standings.Over standings.Open)

-- so it is in each world that is shown
abbrev pub StandsIn : WorldState → Connection → ConnectionState → Type 0
StandsIn v c standing = (world : World) → Shows v world → standing ≡ standing_in world c

-- where memory ran out each is down
pub record Stands (a : WorldBackendState) (c : Connection) (standing : ConnectionState) : Type 0 where
  pub failed : a.failed ≡ true → standing ≡ standings.Down
  pub works : a.failed ≡ false → StandsIn a.world c standing

-- In a world a connection takes no room: it was never opened there, its node is down, or it was closed.
abbrev pub is_gone : World → Connection → Bool
is_gone world c = not (is_client world c) || ((node_at c.node world).down || (client_of c world).closed)

-- so it is in each world that is shown
abbrev pub IsGone : WorldState → Connection → Type 0
IsGone v c = (world : World) → Shows v world → is_gone world c ≡ true

-- no node takes one more connection: each is down, or has as many as it takes
abbrev pub takes_none : Setup → Node → Bool
takes_none setup node = node.down || nat_le setup.connections (in_use node)

abbrev pub IsFull : WorldState → Type 0
IsFull v = (world : World) → Shows v world → list_all (takes_none v.setup) world.nodes ≡ true

-- whether every node is down, in each world that is shown
abbrev pub AreDownIn : WorldState → Bool → Type 0
AreDownIn v down = (world : World) → Shows v world → down ≡ list_all (λ node. node.down) world.nodes

-- where memory ran out they are
pub record AreDown (a : WorldBackendState) (down : Bool) : Type 0 where
  pub failed : a.failed ≡ true → down ≡ true
  pub works : a.failed ≡ false → AreDownIn a.world down
