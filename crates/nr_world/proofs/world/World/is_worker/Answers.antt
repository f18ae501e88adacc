use Rattle.std.proofs.Common.{arith, ◌≡◌, ◌∙◌, true, false, ltb, ap, sym, subst}
use Rattle.std.specs.Prelude.{◌&&◌, is_some}
use Rattle.std.proofs.lemmas.Bool.{lt-ltb}
use Rattle.nr_model.specs.Nodes.Steps as steps
use Rattle.nr_world.specs.WorldState.{WorldState}
use Rattle.nr_world.specs.Batches.{HasWorker}
use Rattle.nr_world.proofs.Standing.{has_worker, state}
use Rattle.nr_world.proofs.world.World.is_worker.Goals as goal

pub returns-then-node-nodes-clause-there : goal.returns-then-node-nodes-clause-there
returns-then-node-nodes-clause-there c = λ e.
    let s = c.self.inside in
    let up : is_some s.failed ≡ false = ap (λ (v : WorldState). v.failed) c.self.view_is ∙ c.requires in
    let here : ltb c.args.node s.setup.nodes ≡ true = lt-ltb c.args.node s.setup.nodes (omega (arith, c.if-node-nodes.true, c.nodes.ensures.value)) in
    let within : ltb c.args.worker s.setup.workers ≡ true = ap (ltb c.args.worker) (sym c.workers.ensures.value) ∙ e in
    let is : steps.is_worker s.setup c.args.node c.args.worker ≡ true = λ i. here i && within i in
    subst (λ (v : WorldState). HasWorker v c.args.node c.args.worker) c.self.view_is
    (has_worker (state s.setup s.nodes.items s.log (is_some s.failed)) c.args.node c.args.worker (c.self.invariant up) is)
