use Rattle.std.proofs.Common.{◌≡◌, drop}
use Rattle.nr_model.specs.Asked.{own_jobs, first_number}
use Rattle.nr_entry.specs.Jobs.{connection_of, items_of}
use Rattle.nr_world.proofs.dropped_jobs.first_own.Given as goal

-- the first of those that are left is the first of all
abbrev pub invariant-loop-job : goal.invariant-loop-job
invariant-loop-job l = first_number (own_jobs (connection_of l.conn) (items_of (drop l.job-index l.waiting))) ≡ first_number (own_jobs (connection_of l.conn) (items_of l.waiting))
