use Rattle.nr_world.specs.Rounds.{RunsBy}
use Rattle.nr_world.proofs.Rounds.{for_entries}
use Rattle.nr_world.proofs.world.World.reserve_all.Given as goal

abbrev pub invariant-loop-node : goal.invariant-loop-node
invariant-loop-node l = RunsBy l.fn.self l.self (for_entries l.setup.nodes l.node) l.done
