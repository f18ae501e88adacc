use Rattle.std.proofs.Common.{◌++◌}
use Rattle.nr_entry.specs.Jobs.{items_of}
use Rattle.nr_job_numbers.proofs.After.{left_after}
use Rattle.nr_node.specs.Next.{jobs_next}
use Rattle.nr_node.proofs.Dropped.{GoesBackTo}
use Rattle.nr_node.proofs.falling.go_back.Given as goal

-- the accounts up to the last one have gone back
abbrev pub invariant-loop-serial : goal.invariant-loop-serial
invariant-loop-serial l = GoesBackTo (items_of (jobs_next l.next) ++ items_of l.replica.waiting) l.last l.fn.accounts l.accounts

abbrev pub decreases-loop-serial : goal.decreases-loop-serial
decreases-loop-serial l = left_after l.last
