use Rattle.std.proofs.Common.{[], ◌∷◌}
use Rattle.nr_model.specs.Nodes.Steps.{Post, Lift}
use Rattle.nr_world.specs.Rounds.{RunsBy}
use Rattle.nr_world.proofs.Rounds.{for_nodes}
use Rattle.nr_world.proofs.world.World.lift_all.Given as goal

abbrev pub invariant-loop-node : goal.invariant-loop-node
invariant-loop-node l = RunsBy l.fn.self l.self (for_nodes (λ n w. Post n w ∷ Lift n w ∷ []) l.setup.workers l.node) l.done
