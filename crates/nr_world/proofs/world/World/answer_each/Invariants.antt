use Rattle.std.proofs.Common.{[], ◌∷◌, map}
use Rattle.std.specs.Prelude.{flat_map}
use Rattle.std.specs.List.{range_with_len}
use Rattle.nr_model.specs.Nodes.Steps.{Answer, Collect}
use Rattle.nr_world.specs.Seen.{handed_seen}
use Rattle.nr_world.specs.Rounds.{RunsSteps}
use Rattle.nr_world.proofs.world.World.answer_each.Given as goal

abbrev pub invariant-loop-worker : goal.invariant-loop-worker
invariant-loop-worker l =
    RunsSteps l.fn.self l.self (flat_map (λ w. Answer l.node w ∷ Collect l.node w ∷ []) (range_with_len 0 l.worker)) (map handed_seen l.fn.handed.items)
    (map handed_seen l.handed.items) l.done
