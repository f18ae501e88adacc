use Rattle.std.proofs.Common.{arith, ◌<◌, get_or, length}
use Rattle.nr_replica.specs.Members.{fresh_member}
use Rattle.nr_world.specs.BySerial.{closed_session}
use Rattle.nr_world.proofs.Sides.{any_default}
use Rattle.nr_world.proofs.Connects.{ended_first, ended_second}
use Rattle.nr_world.proofs.node.WorldNode.has_ended.Goals as goal

pub returns-then-has_ended : goal.returns-then-has_ended
returns-then-has_ended c = λ n pairs.
    let session = get_or c.args.self.now.sessions c.args.serial closed_session in
    ended_first c.args.self.now c.args.serial n session (fresh_member (record { node = 0; serial = 0 }) 0 0) c.has_ended.result pairs
    c.requires.is_there (any_default c.args.self.now.sessions c.args.serial closed_session session c.requires.is_there)
    (c.has_ended.ensures closed_session) c.if-has_ended.true

pub returns-else-has_ended : goal.returns-else-has_ended
returns-else-has_ended c = λ n pairs.
    let session = get_or c.args.self.now.sessions c.args.serial closed_session in
    let none = fresh_member (record { node = 0; serial = 0 }) 0 0 in
    let member = get_or c.args.self.now.replica.members c.args.serial none in
    let within : c.args.serial < length c.args.self.now.replica.members = omega (arith, c.requires.clients, c.requires.is_there) in
    ended_second c.args.self.now c.args.serial n session member c.has_ended.result c.is_cut.result pairs
    c.requires.is_there (any_default c.args.self.now.sessions c.args.serial closed_session session c.requires.is_there)
    (c.has_ended.ensures closed_session) c.if-has_ended.false (any_default c.args.self.now.replica.members c.args.serial none member within)
    (c.is_cut.ensures none)
