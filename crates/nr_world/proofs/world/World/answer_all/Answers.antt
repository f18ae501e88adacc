use Rattle.std.proofs.Common.{refl, [], ◌∷◌}
use Rattle.nr_model.specs.Nodes.Steps.{Answer, Collect}
use Rattle.nr_world.proofs.Rounds.{runs_none, node_on, nodes_all}
use Rattle.nr_world.proofs.world.World.answer_all.Goals as goal

pub loop-node-init : goal.loop-node-init
loop-node-init c = runs_none _ _

pub loop-node-preserved : goal.loop-node-preserved
loop-node-preserved c =
    node_on _ _ _ (λ n w. Answer n w ∷ Collect n w ∷ []) c.args.setup.workers c.loop-node.node c.workers.result _ _ _ _ _ _ c.loop-node.invariant
    c.in_ok-done.ensures.runs c.workers.ensures.value refl

pub returns-clause-runs : goal.returns-clause-runs
returns-clause-runs c =
    nodes_all _ _ (λ n w. Answer n w ∷ Collect n w ∷ []) c.args.setup c.loop-node.node c.nodes-node-end.result _ _ _ c.loop-node.auto.node-end
    c.loop-node-test.false c.nodes-node-end.ensures.value c.loop-node.invariant
