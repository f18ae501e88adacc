use Rattle.std.proofs.Common.{◌≡◌, ◌-◌, List, drop}
use Rattle.nr_model.specs.Nodes as nodes
use Rattle.nr_world.specs.Served.{node_seen}
use Rattle.nr_world.specs.Logs.{log_seen}
use Rattle.nr_world.specs.Replayed.{IsWithin, IsAhead}
use Rattle.nr_world.proofs.replica_steps.catch_up.Given as goal

-- it has gone on to this entry
abbrev pub invariant-loop : goal.invariant-loop
invariant-loop l = record {
  passed : l.node.passed ≡ l.counter;
  within : IsWithin l.log l.node;
  number : l.node.replica.node ≡ l.fn.node.replica.node;
  ahead : (all : List nodes.Logged) → log_seen l.log ≡ drop l.log.base all
      → IsAhead l.fn.node.replica.node (l.counter - l.fn.node.passed) all (node_seen l.fn.node) (node_seen l.node);
}
