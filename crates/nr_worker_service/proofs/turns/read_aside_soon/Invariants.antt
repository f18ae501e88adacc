use Rattle.nr_worker_service.specs.Works.{Works}
use Rattle.nr_worker_service.proofs.turns.read_aside_soon.Given as goal

abbrev pub invariant-loop : goal.invariant-loop
invariant-loop g l = Works l.fn.desk l.desk
