use Rattle.std.proofs.Common.{◌≡◌, ◌+◌, ◌++◌, take, drop}
use Rattle.std.specs.VecDeque.{deque_len, deque_capacity}
use Rattle.nr_entry.proofs.run.take_front.Given as goal

abbrev pub invariant-loop : goal.invariant-loop
invariant-loop l = record {
  jobs : l.jobs.items ≡ l.initial.jobs.items ++ take l.counter l.initial.back.items;
  back : l.back.items ≡ drop l.counter l.initial.back.items;
  moved : deque_len l.jobs ≡ deque_len l.initial.jobs + l.counter;
  room : deque_capacity l.jobs ≡ deque_capacity l.initial.jobs;
}
