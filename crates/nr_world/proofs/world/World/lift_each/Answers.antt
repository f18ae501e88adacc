use Rattle.std.proofs.Common.{refl, ℕ, [], ◌∷◌}
use Rattle.std.specs.Prelude.{flat_map}
use Rattle.std.specs.List.{range_with_len}
use Rattle.nr_model.specs.Nodes.Steps.{Post, Lift}
use Rattle.nr_world.specs.Rounds.{RunsBy}
use Rattle.nr_world.proofs.Rounds.{runs_none, each_on, as_many}
use Rattle.nr_world.proofs.world.World.lift_each.Goals as goal

pub loop-worker-init : goal.loop-worker-init
loop-worker-init c = runs_none _ []

pub loop-worker-preserved : goal.loop-worker-preserved
loop-worker-preserved c =
    each_on _ _ _ (λ w. Post c.args.node w ∷ Lift c.args.node w ∷ []) c.loop-worker.worker _ _ _ _ _ _ c.loop-worker.invariant
    c.in_ok-done.ensures.runs refl

pub returns-clause-runs : goal.returns-clause-runs
returns-clause-runs c =
    as_many
    (λ (k : ℕ). RunsBy c.args.self.now c.loop-worker.self (flat_map (λ w. Post c.args.node w ∷ Lift c.args.node w ∷ []) (range_with_len 0 k))
    c.loop-worker.done)
    c.loop-worker.worker c.args.workers c.loop-worker.auto.worker-end c.loop-worker-test.false c.loop-worker.invariant
