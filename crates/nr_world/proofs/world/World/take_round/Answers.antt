use Rattle.std.proofs.Common.{refl}
use Rattle.nr_world.proofs.Rounds.{round_from}
use Rattle.nr_world.proofs.world.World.take_round.Goals as goal

pub returns-clause-round : goal.returns-clause-round
returns-clause-round c =
    round_from _ _ _ _ _ c.setup-setup.result c.nodes.result _ _ _ _ _ _ _ c.setup-setup.ensures c.nodes.ensures.value c.in_ok-lifted.ensures.runs
    c.in_ok-reserved.ensures.runs c.in_ok-applied.ensures.replays c.in_ok-answered.ensures.runs
    refl
