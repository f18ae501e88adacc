use Rattle.std.proofs.Common.{◌≡◌, length, map, replicate}
use Rattle.nr_model.specs.Nodes as nodes
use Rattle.nr_world.specs.Served.{node_seen}
use Rattle.nr_world.specs.Whole.{AreWhole}
use Rattle.nr_world.proofs.world.fresh_nodes.Given as goal

abbrev pub invariant-loop-node : goal.invariant-loop-node
invariant-loop-node l = record {
  count : length l.nodes.items ≡ l.node;
  seen : map node_seen l.nodes.items ≡ replicate l.node (nodes.fresh_node l.setup);
  whole : AreWhole 0 l.nodes.items;
}
