use Rattle.nr_job_numbers.proofs.After.{PassesOver, left_after}
use Rattle.nr_job_numbers.proofs.stored.BySerial.next_unended.Given as goal

-- the accounts up to the last one are passed over
abbrev pub invariant-loop-serial : goal.invariant-loop-serial
invariant-loop-serial l = PassesOver l.worker l.self l.fn.last l.last

abbrev pub decreases-loop-serial : goal.decreases-loop-serial
decreases-loop-serial l = left_after l.last
