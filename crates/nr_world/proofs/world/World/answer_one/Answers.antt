use Rattle.std.proofs.Common.{refl}
use Rattle.nr_model.specs.Nodes.Steps.{Answer}
use Rattle.nr_world.proofs.Rounds.{step_on}
use Rattle.nr_world.proofs.world.World.answer_one.Goals as goal

pub returns-clause-runs : goal.returns-clause-runs
returns-clause-runs c =
    step_on _ _ _ (Answer c.args.node c.args.worker) _ _ _ _ _ _ _ refl c.in_ok-answered.ensures.taken c.in_ok-collected.ensures.runs
    c.is_done.ensures refl
