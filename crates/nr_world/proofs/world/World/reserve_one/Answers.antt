use Rattle.std.proofs.Common.{refl}
use Rattle.nr_model.specs.Nodes.Steps.{Reserve}
use Rattle.nr_world.proofs.Rounds.{step_on}
use Rattle.nr_world.proofs.world.World.reserve_one.Goals as goal

pub returns-clause-runs : goal.returns-clause-runs
returns-clause-runs c =
    step_on _ _ _ (Reserve c.args.node) _ _ _ _ _ _ _ refl c.in_ok-reserved.ensures.taken c.in_ok-filled.ensures.runs c.is_done.ensures refl
