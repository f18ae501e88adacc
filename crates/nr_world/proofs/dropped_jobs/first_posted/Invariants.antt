use Rattle.std.proofs.Common.{◌≡◌, drop}
use Rattle.nr_model.specs.Asked.{own_jobs, first_number}
use Rattle.nr_entry.specs.Jobs.{connection_of}
use Rattle.nr_world.specs.Dropped.{posted_at}
use Rattle.nr_world.proofs.dropped_jobs.first_posted.Given as goal

-- the first of those that are left is the first of all
abbrev pub invariant-loop-worker : goal.invariant-loop-worker
invariant-loop-worker l =
    first_number (own_jobs (connection_of l.conn) (posted_at (drop l.worker-index l.workers)))
    ≡ first_number (own_jobs (connection_of l.conn) (posted_at l.workers))
