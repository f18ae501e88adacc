use Rattle.std.proofs.Common.{refl, length}
use Rattle.nr_model.specs.Items.{Connection}
use Rattle.nr_entry.specs.Jobs.{connection_of}
use Rattle.nr_replica.specs.Members.{fresh_member}
use Rattle.nr_world.specs.BySerial.{fresh_session}
use Rattle.nr_world.proofs.Changed.{opened_is}
use Rattle.nr_world.proofs.Paired.{whole_opened}
use Rattle.nr_world.proofs.node.WorldNode.open.Goals as goal

pub returns-clause-opened : goal.returns-clause-opened
returns-clause-opened c =
    opened_is c.args.self.now c.open.new.self (fresh_session (connection_of c.in_ok-conn.conn)) c.open-2.new.self c.args.limit c.args.worker c.in_ok-conn.conn c.requires.clients
    c.in_ok-conn.ensures.opened refl c.in_ok-open.ensures

pub returns-clause-whole : goal.returns-clause-whole
returns-clause-whole c = λ n whole.
    let name : Connection = record { node = c.args.self.now.replica.node; serial = length c.args.self.now.replica.members } in
    whole_opened n c.args.self.now _ (fresh_session (connection_of c.in_ok-conn.conn)) (fresh_member name c.args.worker c.args.limit) whole c.in_ok-conn.ensures.opened
    c.in_ok-open.ensures refl refl
    c.in_ok-conn.ensures.conn refl refl refl
