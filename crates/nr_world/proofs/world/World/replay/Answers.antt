use Rattle.std.proofs.Common.{refl}
use Rattle.nr_world.proofs.Rounds.{replays}
use Rattle.nr_world.proofs.world.World.replay.Goals as goal

pub returns-clause-replays : goal.returns-clause-replays
returns-clause-replays c =
    replays c.args.node _ _ _ _ _ _ _ c.in_ok-applied.ensures.turns c.in_ok-looked.ensures.taken c.is_done.ensures refl
