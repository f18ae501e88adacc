use Rattle.std.proofs.Common.{◌≡◌, ◌-◌, List}
use Rattle.nr_model.specs.Nodes as nodes
use Rattle.nr_model.specs.Nodes.Steps as steps
use Rattle.nr_model.specs.Nodes.Pasts.{Event, IsPast}
use Rattle.nr_world.specs.WorldState.{Shows}
use Rattle.nr_world.proofs.world.World.are_filled.Given as goal

-- what is left decides
abbrev pub invariant-loop-entry : goal.invariant-loop-entry
invariant-loop-entry l = (events : List Event) (world : nodes.World) → IsPast l.self.setup events world → Shows l.self world
    → steps.are_filled world l.node l.entry (nodes.tail_of world - l.entry) ≡ steps.are_filled world l.node l.first (nodes.tail_of world - l.first)
