use Rattle.std.proofs.Common.{rules}
use Rattle.nr_node.specs.Batches.{is_cut_at}
use Rattle.nr_combiner.proofs.Cut.{one_added}
use Rattle.nr_combiner.proofs.combiner.add_cut.Goals as goal

pub loop-conn-preserved : goal.loop-conn-preserved
loop-conn-preserved g c =
    one_added (is_cut_at c.args.core.now) c.args.conns.now c.args.cut.now.items c.loop-conn.cut.items c.add_if_cut.new.cut.items c.loop-conn.conn-index _
    c.loop-conn-test.true (search rules) c.in_ok-add_if_cut.ensures.added c.loop-conn.invariant
