use Rattle.nr_world.proofs.Rounds.{rounds_none, rounds_more, rounds_all}
use Rattle.nr_world.proofs.world.World.take_rounds.Goals as goal

pub loop-rounds-init : goal.loop-rounds-init
loop-rounds-init c = rounds_none _ c.args.handed.now.items c.requires.none

pub loop-rounds-preserved : goal.loop-rounds-preserved
loop-rounds-preserved c = rounds_more _ _ _ _ _ _ _ c.loop-rounds.invariant c.in_ok-take_round.ensures.round c.if-not-branch.false

pub returns-then-not-branch-clause-settles : goal.returns-then-not-branch-clause-settles
returns-then-not-branch-clause-settles c = λ few.
    rounds_all _ _ _ _ _ _ _ c.loop-rounds.invariant c.in_ok-take_round.ensures.round c.if-not-branch.true c.take_round.ensures.allowed
