use Rattle.nr_worker_service.specs.Works.{Works}
use Rattle.nr_worker_service.proofs.turns.take_turns.Given as goal

abbrev pub invariant-loop-turn : goal.invariant-loop-turn
invariant-loop-turn g l = Works l.fn.desk l.desk
