use Rattle.std.proofs.Common.{map}
use Rattle.nr_world.specs.Seen.{handed_seen}
use Rattle.nr_world.specs.Rounds.{TakesRounds}
use Rattle.nr_world.proofs.world.World.take_rounds.Given as goal

abbrev pub invariant-loop-rounds : goal.invariant-loop-rounds
invariant-loop-rounds l = TakesRounds l.rounds l.fn.self l.self (map handed_seen l.handed.items)
