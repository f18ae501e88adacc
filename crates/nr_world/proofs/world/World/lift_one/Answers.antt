use Rattle.std.proofs.Common.{refl}
use Rattle.nr_model.specs.Nodes.Steps.{Post, Lift}
use Rattle.nr_world.proofs.Rounds.{steps_on}
use Rattle.nr_world.proofs.world.World.lift_one.Goals as goal

pub returns-clause-runs : goal.returns-clause-runs
returns-clause-runs c =
    steps_on _ _ _ (Post c.args.node c.args.worker) (Lift c.args.node c.args.worker) _ _ _ _ _ refl refl c.in_ok-posted.ensures.taken
    c.in_ok-lifted.ensures.taken c.is_done.ensures c.is_done-2.ensures refl
