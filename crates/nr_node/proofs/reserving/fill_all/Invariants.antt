use Rattle.std.proofs.Common.{◌≡◌}
use Rattle.nr_node.proofs.Filled.{AreFilled}
use Rattle.nr_node.proofs.reserving.fill_all.Given as goal

abbrev pub invariant-loop-node : goal.invariant-loop-node
invariant-loop-node g l = AreFilled l.at l.nodes l.node l.fn.end.standing l.end.standing × (l.end.looks ≡ l.fn.end.looks)
