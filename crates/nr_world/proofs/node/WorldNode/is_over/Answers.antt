use Rattle.nr_replica.specs.Members.{fresh_member}
use Rattle.nr_world.specs.BySerial.{closed_session}
use Rattle.nr_world.proofs.Connects.{over_first, over_second}
use Rattle.nr_world.proofs.node.WorldNode.is_over.Goals as goal

pub returns-then-has_ended : goal.returns-then-has_ended
returns-then-has_ended c = λ n pairs.
    over_first c.args.self.now c.args.serial n closed_session (fresh_member (record { node = 0; serial = 0 }) 0 0) c.has_ended.result pairs
    c.requires.is_there (c.has_ended.ensures closed_session) c.if-has_ended.true

pub returns-else-has_ended : goal.returns-else-has_ended
returns-else-has_ended c = λ n pairs.
    over_second c.args.self.now c.args.serial n closed_session (fresh_member (record { node = 0; serial = 0 }) 0 0) c.has_ended.result c.is_overrun.result pairs
    c.requires.is_there (c.has_ended.ensures closed_session) c.if-has_ended.false c.is_overrun.ensures
