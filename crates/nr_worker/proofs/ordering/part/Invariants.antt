use Rattle.std.proofs.Common.{◌≡◌, ◌≤◌, ◌<◌, ◌+◌, ◌++◌, [], true}
use Rattle.std.specs.Vec.{vec_len, vec_capacity}
use Rattle.std.specs.VecDeque.{deque_len}
use Rattle.nr_model.specs.Asked.{own_jobs}
use Rattle.nr_model.specs.Items.{Connection}
use Rattle.nr_entry.specs.Jobs.{items_of}
use Rattle.nr_worker.specs.Ordering.{is_free}
use Rattle.nr_worker.proofs.ordering.part.Given as goal

abbrev pub invariant-loop-job : goal.invariant-loop-job
invariant-loop-job l = record {
  own : (c : Connection) → (own_jobs c (items_of l.first.items) ++ own_jobs c (items_of l.others.items)) ++ own_jobs c (items_of l.left.items) ≡ own_jobs c (items_of l.initial.left.items);
  free : vec_len l.first < l.most → (c : Connection) → is_free l.writers c.serial ≡ true → own_jobs c (items_of l.others.items) ≡ [];
  few : vec_len l.first ≤ l.most;
  all : (vec_len l.first + vec_len l.others) + deque_len l.left ≡ deque_len l.initial.left;
  room : vec_capacity l.first ≡ vec_capacity l.initial.first;
  behind : vec_capacity l.others ≡ vec_capacity l.initial.others;
}

abbrev pub decreases-loop-job : goal.decreases-loop-job
decreases-loop-job l = deque_len l.left
