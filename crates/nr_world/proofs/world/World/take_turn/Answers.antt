use Rattle.std.proofs.Common.{refl, ap}
use Rattle.std.specs.Prelude.{is_some}
use Rattle.nr_model.specs.Nodes.Steps.{Apply, Fetch}
use Rattle.nr_world.proofs.Rounds.{steps_on}
use Rattle.nr_world.proofs.TurnsLeft.{turn_less}
use Rattle.nr_world.proofs.world.World.take_turn.Goals as goal

pub returns-clause-runs : goal.returns-clause-runs
returns-clause-runs c =
    steps_on _ _ _ (Apply c.args.node) (Fetch c.args.node) _ _ _ _ _ refl refl c.in_ok-applied.ensures.taken c.in_ok-fetched.ensures.taken
    c.is_done.ensures c.is_done-2.ensures refl

pub returns-clause-less : goal.returns-clause-less
returns-clause-less c =
    turn_less c.args.node _ _ _ _ c.self.view_is c.self.invariant (ap is_some c.in_default.is)
    (steps_on _ _ _ (Apply c.args.node) (Fetch c.args.node) _ _ _ _ _ refl refl c.in_ok-applied.ensures.taken c.in_ok-fetched.ensures.taken
    c.is_done.ensures c.is_done-2.ensures refl)
