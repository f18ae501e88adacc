use Rattle.std.proofs.Common.{◌≡◌, ◌≤◌, ◌+◌, ◌++◌, length}
use Rattle.std.specs.VecDeque.{deque_len, deque_capacity}
use Rattle.nr_entry.proofs.lifting.unload.Given as goal

abbrev pub invariant-loop-job : goal.invariant-loop-job
invariant-loop-job l = record {
  all : l.jobs.items ++ l.left.items ≡ l.initial.jobs.items ++ l.initial.left.items;
  len : length l.jobs.items + (length l.left.items) ≤ deque_capacity l.left;
  room : deque_capacity l.left ≡ deque_capacity l.initial.left;
}

abbrev pub decreases-loop-job : goal.decreases-loop-job
decreases-loop-job l = deque_len l.jobs
