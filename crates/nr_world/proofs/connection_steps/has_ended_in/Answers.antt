use Rattle.std.proofs.Common.{rules, ◌≡◌, true, Bool, get_or, sym, ap, ◌∙◌}
use Rattle.std.specs.Prelude.{not, ◌||◌}
use Rattle.nr_model.specs.Nodes as nodes
use Rattle.nr_model.specs.Nodes.Steps as steps
use Rattle.nr_entry.specs.Jobs.{connection_of}
use Rattle.nr_world.specs.Connected.{seen_world, takes_none}
use Rattle.nr_world.proofs.Paired.{paired_many}
use Rattle.nr_world.proofs.Connects.{there_node, there_serial, whole_of, seen_in}
use Rattle.nr_world.proofs.connection_steps.has_ended_in.Goals as goal

pub has_ended-requires-clause-is_there : goal.has_ended-requires-clause-is_there
has_ended-requires-clause-is_there c =
    let node = c.index-nodes-conn.result in
    let at : node ≡ get_or c.args.nodes.now c.args.conn.node node = search rules in
    let there : steps.is_client (seen_world c.args.nodes.now) (connection_of c.args.conn) ≡ true = sym c.is_there.ensures ∙ c.if-not-is_there.false in
    there_serial c.args.nodes.now (connection_of c.args.conn) node c.requires.whole there at

pub has_ended-requires-clause-clients : goal.has_ended-requires-clause-clients
has_ended-requires-clause-clients c =
    let node = c.index-nodes-conn.result in
    let at : node ≡ get_or c.args.nodes.now c.args.conn.node node = search rules in
    let there : steps.is_client (seen_world c.args.nodes.now) (connection_of c.args.conn) ≡ true = sym c.is_there.ensures ∙ c.if-not-is_there.false in
    let pairs = (whole_of c.args.nodes.now c.args.conn.node node (there_node c.args.nodes.now (connection_of c.args.conn) there) c.requires.whole at).pairs in
    paired_many c.args.conn.node 0 node.sessions node.replica.members pairs

pub returns : goal.returns
returns c =
    let node = c.index-nodes-conn.result in
    let at : node ≡ get_or c.args.nodes.now c.args.conn.node node = search rules in
    let there : steps.is_client (seen_world c.args.nodes.now) (connection_of c.args.conn) ≡ true = sym c.is_there.ensures ∙ c.if-not-is_there.false in
    let h = there_node c.args.nodes.now (connection_of c.args.conn) there in
    let pairs = (whole_of c.args.nodes.now c.args.conn.node node h c.requires.whole at).pairs in
    let ends : nodes.Node → Bool = λ (x : nodes.Node). takes_none (nodes.client_at c.args.conn.serial x) in
    c.has_ended.ensures c.args.conn.node pairs
    ∙ ap ends (sym (seen_in c.args.nodes.now c.args.conn.node node h at))
    ∙ sym (ap (λ (b : Bool). not b || ends (nodes.node_at c.args.conn.node (seen_world c.args.nodes.now))) there)
