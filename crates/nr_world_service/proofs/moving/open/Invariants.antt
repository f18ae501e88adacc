-- No node took it so far.
use Rattle.std.proofs.Common.{[], ◌%◌}
use Rattle.nr_world_service.specs.Moves.{Moves}
use Rattle.nr_world_service.proofs.Fullness.{HaveRefused}
use Rattle.nr_world_service.proofs.moving.open.Given as goal

abbrev pub invariant-loop-passed : goal.invariant-loop-passed
invariant-loop-passed l = Moves l.fn.world l.world [] × HaveRefused l.fn.world l.world (l.number % l.fn.world.setup.nodes) l.passed
