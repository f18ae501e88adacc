use Rattle.nr_world.specs.Forgotten.{AreForgotten}
use Rattle.nr_world.proofs.pending_jobs.drop_pending.Given as goal

abbrev pub invariant-loop-worker : goal.invariant-loop-worker
invariant-loop-worker l = AreForgotten l.worker-index l.fn.workers l.workers
