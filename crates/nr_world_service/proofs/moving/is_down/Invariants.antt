-- Each node before this one is down.
use Rattle.std.proofs.Common.{◌≡◌, ◌<◌, ℕ, true}
use Rattle.nr_model.specs.Nodes.{World, node_at}
use Rattle.nr_world.specs.WorldState.{Shows}
use Rattle.nr_world_service.proofs.moving.is_down.Given as goal

abbrev pub invariant-loop-node : goal.invariant-loop-node
invariant-loop-node l = (shown : World) → Shows l.world shown → (i : ℕ) → i < l.node → (node_at i shown).down ≡ true
