use Rattle.std.proofs.Common.{rules, true, ◌≡◌, get_or, sym, ◌∙◌}
use Rattle.nr_model.specs.Nodes.Steps as steps
use Rattle.nr_entry.specs.Jobs.{connection_of}
use Rattle.nr_world.specs.Connected.{seen_world}
use Rattle.nr_world.proofs.Paired.{paired_many}
use Rattle.nr_world.proofs.Connects.{there_node, there_serial, whole_of}
use Rattle.nr_world.proofs.connection_steps.why_not_close.Goals as goal

pub is_closed-requires-clause-is_there : goal.is_closed-requires-clause-is_there
is_closed-requires-clause-is_there c =
    let node = c.index-nodes-conn.result in
    let at : node ≡ get_or c.args.nodes.now c.args.conn.node node = search rules in
    let there : steps.is_client (seen_world c.args.nodes.now) (connection_of c.args.conn) ≡ true = sym c.is_there.ensures ∙ c.if-not-is_there.false in
    there_serial c.args.nodes.now (connection_of c.args.conn) node c.requires.whole there at

pub is_closed-requires-clause-clients : goal.is_closed-requires-clause-clients
is_closed-requires-clause-clients c =
    let node = c.index-nodes-conn.result in
    let at : node ≡ get_or c.args.nodes.now c.args.conn.node node = search rules in
    let there : steps.is_client (seen_world c.args.nodes.now) (connection_of c.args.conn) ≡ true = sym c.is_there.ensures ∙ c.if-not-is_there.false in
    let pairs = (whole_of c.args.nodes.now c.args.conn.node node (there_node c.args.nodes.now (connection_of c.args.conn) there) c.requires.whole at).pairs in
    paired_many c.args.conn.node 0 node.sessions node.replica.members pairs
