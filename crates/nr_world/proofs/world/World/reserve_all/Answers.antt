use Rattle.std.proofs.Common.{refl, []}
use Rattle.nr_world.proofs.Rounds.{runs_none, entry_on, entries_all}
use Rattle.nr_world.proofs.world.World.reserve_all.Goals as goal

pub loop-node-init : goal.loop-node-init
loop-node-init c = runs_none _ []

pub loop-node-preserved : goal.loop-node-preserved
loop-node-preserved c =
    entry_on _ _ _ c.args.setup.nodes c.loop-node.node c.nodes.result _ _ _ c.loop-node.invariant c.in_ok-done.ensures.runs
    c.nodes.ensures.value refl

pub returns-clause-runs : goal.returns-clause-runs
returns-clause-runs c =
    entries_all _ _ c.args.setup c.loop-node.node c.nodes-node-end.result _ c.loop-node.auto.node-end c.loop-node-test.false
    c.nodes-node-end.ensures.value c.loop-node.invariant
