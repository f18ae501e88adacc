use Rattle.nr_node.specs.Batches.{is_cut_at}
use Rattle.nr_combiner.proofs.Cut.{AreAdded}
use Rattle.nr_combiner.proofs.combiner.add_cut.Given as goal

abbrev pub invariant-loop-conn : goal.invariant-loop-conn
invariant-loop-conn g l = AreAdded (is_cut_at l.core) l.conns l.fn.cut.items l.cut.items l.conn-index
