use Rattle.std.proofs.Common.{◌≡◌, drop}
use Rattle.nr_model.specs.Asked.{own_jobs, first_number}
use Rattle.nr_entry.specs.Jobs.{connection_of, items_of}
use Rattle.nr_node.proofs.falling.first_of.Given as goal

abbrev pub invariant-loop-job : goal.invariant-loop-job
invariant-loop-job l =
    first_number (own_jobs (connection_of l.conn) (items_of (drop l.job-index l.jobs))) ≡ first_number (own_jobs (connection_of l.conn) (items_of l.jobs))
