use Rattle.nr_job_numbers.proofs.Steps.{TookFront}
use Rattle.nr_job_numbers.proofs.taking.take_front.Given as goal

abbrev pub invariant-loop-index : goal.invariant-loop-index
invariant-loop-index l = TookFront l.node l.worker l.fn.held l.held l.jobs l.index
