use Rattle.std.proofs.Common.{refl, ℕ}
use Rattle.nr_world.specs.Rounds.{ReplayEach}
use Rattle.nr_world.proofs.Rounds.{replay_none, replay_on, as_many}
use Rattle.nr_world.proofs.world.World.replay_all.Goals as goal

pub loop-node-init : goal.loop-node-init
loop-node-init c = replay_none _

pub loop-node-preserved : goal.loop-node-preserved
loop-node-preserved c = replay_on c.loop-node.node _ _ _ _ _ _ c.loop-node.invariant c.in_ok-done.ensures.replays refl

pub returns-clause-replays : goal.returns-clause-replays
returns-clause-replays c =
    as_many (λ (k : ℕ). ReplayEach k c.args.self.now c.loop-node.self c.loop-node.done) c.loop-node.node c.args.nodes c.loop-node.auto.node-end
    c.loop-node-test.false c.loop-node.invariant
