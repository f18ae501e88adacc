use Rattle.std.proofs.Common.{◌≡◌, None, replicate, length}
use Rattle.nr_model.specs.Nodes as nodes
use Rattle.nr_world.specs.Served.{workers_seen}
use Rattle.nr_world.proofs.node.fresh_workers.Given as goal

abbrev pub invariant-loop : goal.invariant-loop
invariant-loop l = record {
  count : length l.workers.items ≡ l.counter;
  fresh : workers_seen l.workers.items (replicate l.counter None) ≡ replicate l.counter nodes.fresh_worker;
}
