use Rattle.std.proofs.Common.{◌≡◌, ◌≤◌, ◌+◌, ◌++◌, length, vec_len}
use Rattle.std.specs.VecDeque.{deque_capacity}
use Rattle.nr_entry.specs.Runs.{jobs_in}
use Rattle.nr_entry.proofs.lifting.restore.Given as goal

abbrev pub invariant-loop-run : goal.invariant-loop-run
invariant-loop-run l = record {
  all : jobs_in l.added.items ++ l.left.items ≡ jobs_in l.initial.added.items ++ l.initial.left.items;
  room : length (jobs_in l.added.items) + (length l.left.items) ≤ deque_capacity l.left;
}

abbrev pub decreases-loop-run : goal.decreases-loop-run
decreases-loop-run l = vec_len l.added
