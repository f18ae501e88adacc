use Rattle.nr_world.proofs.Rounds.{collects}
use Rattle.nr_world.proofs.world.World.collect_into.Goals as goal

pub returns-clause-runs : goal.returns-clause-runs
returns-clause-runs c = collects _ _ c.args.node c.args.worker _ _ _ _ _ c.in_ok-outcome.ensures.taken c.is_done.ensures
