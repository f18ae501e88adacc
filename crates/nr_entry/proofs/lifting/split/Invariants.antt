use Rattle.std.proofs.Common.{◌≡◌, ◌++◌}
use Rattle.std.specs.VecDeque.{deque_len, deque_capacity}
use Rattle.nr_entry.specs.Runs.{jobs_in, lent_in}
use Rattle.nr_entry.proofs.lifting.split.Given as goal

abbrev pub invariant-loop-job : goal.invariant-loop-job
invariant-loop-job l = record {
  all : jobs_in l.added.items ++ l.left.items ≡ l.initial.left.items;
  lent : lent_in l.added.items ≡ 0;
  room : deque_capacity l.left ≡ deque_capacity l.initial.left;
}

abbrev pub decreases-loop-job : goal.decreases-loop-job
decreases-loop-job l = deque_len l.left
