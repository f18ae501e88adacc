use Rattle.nr_node.proofs.Shares.{one_out}
use Rattle.nr_node.proofs.own_entries.let_go_below.Goals as goal

pub loop-preserved : goal.loop-preserved
loop-preserved c =
    one_out c.args.least c.args.kept.now.items c.loop.kept.items c.take_below.new.kept.items c.loop.invariant (c.take_below.ensures.taken c.loop-test.true)
