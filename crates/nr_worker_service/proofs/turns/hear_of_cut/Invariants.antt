use Rattle.nr_worker_service.specs.Works.{Works}
use Rattle.nr_worker_service.proofs.turns.hear_of_cut.Given as goal

abbrev pub invariant-loop-conn : goal.invariant-loop-conn
invariant-loop-conn g l = Works l.fn.desk l.desk
