use Rattle.nr_world.specs.Rounds.{turns_left}
use Rattle.nr_world.proofs.Rounds.{Turned}
use Rattle.nr_world.proofs.world.World.take_turns.Given as goal

abbrev pub invariant-loop-done : goal.invariant-loop-done
invariant-loop-done l = Turned l.node l.fn.self l.self l.done

abbrev pub decreases-loop-done : goal.decreases-loop-done
decreases-loop-done l = turns_left l.node l.self
