use Rattle.std.proofs.Common.{◌≡◌, ◌+◌, ◌++◌, take, drop, vec_len, vec_capacity}
use Rattle.std.specs.VecDeque.{deque_len, deque_capacity}
use Rattle.nr_entry.proofs.run.move_front.Given as goal

abbrev pub invariant-loop : goal.invariant-loop
invariant-loop l = record {
  into : l.into.items ≡ l.initial.into.items ++ take l.counter l.initial.jobs.items;
  jobs : l.jobs.items ≡ drop l.counter l.initial.jobs.items;
  left : deque_len l.jobs + l.counter ≡ deque_len l.initial.jobs;
  moved : vec_len l.into ≡ vec_len l.initial.into + l.counter;
  jobs_room : deque_capacity l.jobs ≡ deque_capacity l.initial.jobs;
  into_room : vec_capacity l.into ≡ vec_capacity l.initial.into;
}
