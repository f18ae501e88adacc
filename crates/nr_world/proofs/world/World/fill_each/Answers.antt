use Rattle.std.proofs.Common.{ℕ, [], map, refl}
use Rattle.std.specs.List.{range_with_len}
use Rattle.nr_model.specs.Nodes.Steps.{Fill}
use Rattle.nr_world.specs.Rounds.{RunsBy}
use Rattle.nr_world.proofs.Rounds.{runs_none, runs_step, mapped_on, as_many}
use Rattle.nr_world.proofs.world.World.fill_each.Goals as goal

pub loop-other-init : goal.loop-other-init
loop-other-init c = runs_none _ []

pub loop-other-preserved : goal.loop-other-preserved
loop-other-preserved c =
    mapped_on _ _ _ (Fill c.args.node) c.loop-other.other _ _ _ _ _ _ c.loop-other.invariant
    (runs_step _ _ (Fill c.args.node c.loop-other.other) _ _ refl c.in_ok-filled.ensures.taken c.is_done-done.ensures) refl

pub returns-clause-runs : goal.returns-clause-runs
returns-clause-runs c =
    as_many (λ (k : ℕ). RunsBy c.args.self.now c.loop-other.self (map (Fill c.args.node) (range_with_len 0 k)) c.loop-other.done)
    c.loop-other.other c.args.nodes c.loop-other.auto.other-end c.loop-other-test.false c.loop-other.invariant
