use Rattle.nr_world.specs.Rounds.{ReplayEach}
use Rattle.nr_world.proofs.world.World.replay_all.Given as goal

abbrev pub invariant-loop-node : goal.invariant-loop-node
invariant-loop-node l = ReplayEach l.node l.fn.self l.self l.done
