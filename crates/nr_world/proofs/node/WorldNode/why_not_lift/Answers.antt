use Rattle.std.proofs.Common.{rules, ◌≡◌, false, None, get_or, sym, ◌∙◌}
use Rattle.nr_world.specs.Batches.{lift_outcome}
use Rattle.nr_world.proofs.Batches.{by_worker}
use Rattle.nr_world.proofs.node.WorldNode.why_not_lift.Goals as goal

pub returns-clause-outcome : goal.returns-clause-outcome
returns-clause-outcome c =
    let at : c.index.result.now ≡ get_or c.args.self.now.workers.items c.args.worker c.index.result.now = search rules in
    let up : c.args.self.now.replica.down ≡ false = sym c.is_down.ensures ∙ c.if-is_down.false in
    by_worker c.args.self.now c.args.worker c.index.result.now lift_outcome _ c.requires.is_there c.requires.owed at up
    (c.why_not_lift.ensures (get_or c.args.self.now.replica.owed c.args.worker None))
