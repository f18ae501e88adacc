use Rattle.std.proofs.Common.{[], ◌∷◌, map}
use Rattle.nr_model.specs.Nodes.Steps.{Answer, Collect}
use Rattle.nr_world.specs.Seen.{handed_seen}
use Rattle.nr_world.specs.Rounds.{RunsSteps}
use Rattle.nr_world.proofs.Rounds.{for_nodes}
use Rattle.nr_world.proofs.world.World.answer_all.Given as goal

abbrev pub invariant-loop-node : goal.invariant-loop-node
invariant-loop-node l =
    RunsSteps l.fn.self l.self (for_nodes (λ n w. Answer n w ∷ Collect n w ∷ []) l.setup.workers l.node) (map handed_seen l.fn.handed.items)
    (map handed_seen l.handed.items) l.done
