use Rattle.nr_job_numbers.proofs.Ends.{NotedFront}
use Rattle.nr_job_numbers.proofs.taking.note_ends.Given as goal

abbrev pub invariant-loop-index : goal.invariant-loop-index
invariant-loop-index l = NotedFront l.node l.worker l.fn.held l.held l.jobs l.index
