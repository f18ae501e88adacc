use Rattle.std.proofs.Common.{map}
use Rattle.std.specs.List.{range_with_len}
use Rattle.nr_model.specs.Nodes.Steps.{Fill}
use Rattle.nr_world.specs.Rounds.{RunsBy}
use Rattle.nr_world.proofs.world.World.fill_each.Given as goal

abbrev pub invariant-loop-other : goal.invariant-loop-other
invariant-loop-other l = RunsBy l.fn.self l.self (map (Fill l.node) (range_with_len 0 l.other)) l.done
