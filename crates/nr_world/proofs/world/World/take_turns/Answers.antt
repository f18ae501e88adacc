use Rattle.nr_world.proofs.Rounds.{turned_none, turned_on, turned_all}
use Rattle.nr_world.proofs.world.World.take_turns.Goals as goal

pub loop-done-init : goal.loop-done-init
loop-done-init c = turned_none c.args.node _

pub loop-done-preserved : goal.loop-done-preserved
loop-done-preserved c = turned_on c.args.node _ _ _ _ _ c.loop-done.invariant c.in_ok-take_turn.ensures.runs c.if-branch.true

pub returns-clause-turns : goal.returns-clause-turns
returns-clause-turns c = turned_all c.args.node _ _ _ _ _ c.loop-done.invariant c.in_ok-take_turn.ensures.runs c.if-branch.false
