use Rattle.std.proofs.Common.{rules, ◌≡◌, false, get_or, refl, ap}
use Rattle.std.specs.Prelude.{is_some}
use Rattle.nr_model.specs.Nodes.Steps as steps
use Rattle.nr_model.specs.Nodes.Steps.{lifted_node}
use Rattle.nr_world.specs.Batches.{HasWorker, ComesTo}
use Rattle.nr_world.proofs.Shown.{takes_nothing}
use Rattle.nr_world.proofs.Standing.{step_at}
use Rattle.nr_world.proofs.Batches.{makes_lift}
use Rattle.nr_world.proofs.world.World.lift.Goals as goal

pub returns-in-Some-why_not_lift-clause-taken : goal.returns-in-Some-why_not_lift-clause-taken
returns-in-Some-why_not_lift-clause-taken c =
    let comes : ComesTo c.args.self.now (steps.Lift c.args.node c.args.worker) (steps.Idle c.in-Some-why_not_lift.reason) = c.in-Some-why_not_lift.ensures.outcome in
    takes_nothing c.args.self.now (steps.Lift c.args.node c.args.worker) c.in-Some-why_not_lift.reason comes.is

pub returns-in-Ok-clause-taken : goal.returns-in-Ok-clause-taken
returns-in-Ok-clause-taken c =
    let s = c.self.inside in
    let up : is_some s.failed ≡ false = ap is_some c.in_default.is in
    let comes : ComesTo c.args.self.now (steps.Lift c.args.node c.args.worker) steps.Done = search (rules, c.in_default-why_not_lift.ensures.outcome) in
    let has : HasWorker c.args.self.now c.args.node c.args.worker = search (rules, c.in_default-why_not_lift.ensures.there) in
    let at : c.index_mut.result.now ≡ get_or s.nodes.items c.args.node c.index_mut.result.now = search rules in
    (step_at c.args.self.now s.setup s.nodes.items s.log (is_some s.failed) (is_some s.failed) (steps.Lift c.args.node c.args.worker) c.args.node c.args.worker
    (lifted_node c.args.worker) c.lift.new.self
    c.index_mut.result.now c.self.view_is up up c.self.invariant (makes_lift s.setup c.args.node c.args.worker) (λ world. refl)
    (λ world. refl) has comes at c.in-Ok.ensures.lifted
    (c.in-Ok.ensures.whole c.args.node)).0

pub invariant_of-self : goal.invariant_of-self
invariant_of-self c = λ still.
    let s = c.self.inside in
    let up : is_some s.failed ≡ false = ap is_some c.in_default.is in
    let comes : ComesTo c.args.self.now (steps.Lift c.args.node c.args.worker) steps.Done = search (rules, c.in_default-why_not_lift.ensures.outcome) in
    let has : HasWorker c.args.self.now c.args.node c.args.worker = search (rules, c.in_default-why_not_lift.ensures.there) in
    let at : c.index_mut.result.now ≡ get_or s.nodes.items c.args.node c.index_mut.result.now = search rules in
    (step_at c.args.self.now s.setup s.nodes.items s.log (is_some s.failed) (is_some s.failed) (steps.Lift c.args.node c.args.worker) c.args.node c.args.worker
    (lifted_node c.args.worker) c.lift.new.self
    c.index_mut.result.now c.self.view_is up up c.self.invariant (makes_lift s.setup c.args.node c.args.worker) (λ world. refl)
    (λ world. refl) has comes at c.in-Ok.ensures.lifted
    (c.in-Ok.ensures.whole c.args.node)).1
