use Rattle.std.proofs.Common.{[], ◌∷◌}
use Rattle.std.specs.Prelude.{flat_map}
use Rattle.std.specs.List.{range_with_len}
use Rattle.nr_model.specs.Nodes.Steps.{Post, Lift}
use Rattle.nr_world.specs.Rounds.{RunsBy}
use Rattle.nr_world.proofs.world.World.lift_each.Given as goal

abbrev pub invariant-loop-worker : goal.invariant-loop-worker
invariant-loop-worker l = RunsBy l.fn.self l.self (flat_map (λ w. Post l.node w ∷ Lift l.node w ∷ []) (range_with_len 0 l.worker)) l.done
