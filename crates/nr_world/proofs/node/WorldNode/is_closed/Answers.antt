use Rattle.std.proofs.Common.{◌∙◌}
use Rattle.nr_replica.specs.Members.{fresh_member}
use Rattle.nr_world.proofs.Connects.{closed_is_so, no_session}
use Rattle.nr_world.proofs.node.WorldNode.is_closed.Goals as goal

pub returns : goal.returns
returns c =
    let none = fresh_member (record { node = 0; serial = 0 }) 0 0 in
    c.is_closed.ensures none ∙ closed_is_so c.args.self.now c.args.serial no_session none c.requires.clients c.requires.is_there
