use Rattle.std.proofs.Common.{rules, refl, true, false, ◌≡◌, get_or, sym, ◌∙◌}
use Rattle.nr_model.specs.Nodes as nodes
use Rattle.nr_model.specs.Nodes.Steps as steps
use Rattle.nr_entry.specs.Jobs.{connection_of}
use Rattle.nr_world.specs.Connected.{seen_world, is_over}
use Rattle.nr_world.specs.Served.{node_seen}
use Rattle.nr_world.proofs.Paired.{paired_many}
use Rattle.nr_world.proofs.Connects.{there_node, there_serial, whole_of, feed_some}
use Rattle.nr_world.proofs.connection_steps.why_not_feed.Goals as goal

pub is_over-requires-clause-is_there : goal.is_over-requires-clause-is_there
is_over-requires-clause-is_there c =
    let node = c.index-nodes-conn.result in
    let at : node ≡ get_or c.args.nodes.now c.args.conn.node node = search rules in
    let there : steps.is_client (seen_world c.args.nodes.now) (connection_of c.args.conn) ≡ true = sym c.is_there.ensures ∙ c.if-not-is_there.false in
    there_serial c.args.nodes.now (connection_of c.args.conn) node c.requires.whole there at

pub is_over-requires-clause-clients : goal.is_over-requires-clause-clients
is_over-requires-clause-clients c =
    let node = c.index-nodes-conn.result in
    let at : node ≡ get_or c.args.nodes.now c.args.conn.node node = search rules in
    let there : steps.is_client (seen_world c.args.nodes.now) (connection_of c.args.conn) ≡ true = sym c.is_there.ensures ∙ c.if-not-is_there.false in
    let pairs = (whole_of c.args.nodes.now c.args.conn.node node (there_node c.args.nodes.now (connection_of c.args.conn) there) c.requires.whole at).pairs in
    paired_many c.args.conn.node 0 node.sessions node.replica.members pairs

pub is_cut-requires-clause-is_there : goal.is_cut-requires-clause-is_there
is_cut-requires-clause-is_there c =
    let node = c.index-nodes-conn.result in
    let at : node ≡ get_or c.args.nodes.now c.args.conn.node node = search rules in
    let there : steps.is_client (seen_world c.args.nodes.now) (connection_of c.args.conn) ≡ true = sym c.is_there.ensures ∙ c.if-not-is_there.false in
    there_serial c.args.nodes.now (connection_of c.args.conn) node c.requires.whole there at

pub is_cut-requires-clause-clients : goal.is_cut-requires-clause-clients
is_cut-requires-clause-clients c =
    let node = c.index-nodes-conn.result in
    let at : node ≡ get_or c.args.nodes.now c.args.conn.node node = search rules in
    let there : steps.is_client (seen_world c.args.nodes.now) (connection_of c.args.conn) ≡ true = sym c.is_there.ensures ∙ c.if-not-is_there.false in
    let pairs = (whole_of c.args.nodes.now c.args.conn.node node (there_node c.args.nodes.now (connection_of c.args.conn) there) c.requires.whole at).pairs in
    paired_many c.args.conn.node 0 node.sessions node.replica.members pairs

pub returns-then-is_over : goal.returns-then-is_over
returns-then-is_over c = λ setup time bytes.
    let node = c.index-nodes-conn.result in
    let at : node ≡ get_or c.args.nodes.now c.args.conn.node node = search rules in
    let there : steps.is_client (seen_world c.args.nodes.now) (connection_of c.args.conn) ≡ true = sym c.is_there.ensures ∙ c.if-not-is_there.false in
    let pairs = (whole_of c.args.nodes.now c.args.conn.node node (there_node c.args.nodes.now (connection_of c.args.conn) there) c.requires.whole at).pairs in
    let over : is_over (nodes.client_at c.args.conn.serial (node_seen node)) ≡ true = sym (c.is_over.ensures c.args.conn.node pairs) ∙ c.if-is_over.true in
    feed_some setup c.args.nodes.now (connection_of c.args.conn) time bytes node true node.replica.down
    (nodes.client_at c.args.conn.serial (node_seen node)).queue.cut there at over refl refl

pub returns-then-is_down : goal.returns-then-is_down
returns-then-is_down c = λ setup time bytes.
    let node = c.index-nodes-conn.result in
    let at : node ≡ get_or c.args.nodes.now c.args.conn.node node = search rules in
    let there : steps.is_client (seen_world c.args.nodes.now) (connection_of c.args.conn) ≡ true = sym c.is_there.ensures ∙ c.if-not-is_there.false in
    let pairs = (whole_of c.args.nodes.now c.args.conn.node node (there_node c.args.nodes.now (connection_of c.args.conn) there) c.requires.whole at).pairs in
    let over : is_over (nodes.client_at c.args.conn.serial (node_seen node)) ≡ false = sym (c.is_over.ensures c.args.conn.node pairs) ∙ c.if-is_over.false in
    let down : node.replica.down ≡ true = sym c.is_down.ensures ∙ c.if-is_down.true in
    feed_some setup c.args.nodes.now (connection_of c.args.conn) time bytes node false true
    (nodes.client_at c.args.conn.serial (node_seen node)).queue.cut there at over down refl

pub returns-then-is_cut : goal.returns-then-is_cut
returns-then-is_cut c = λ setup time bytes.
    let node = c.index-nodes-conn.result in
    let at : node ≡ get_or c.args.nodes.now c.args.conn.node node = search rules in
    let there : steps.is_client (seen_world c.args.nodes.now) (connection_of c.args.conn) ≡ true = sym c.is_there.ensures ∙ c.if-not-is_there.false in
    let pairs = (whole_of c.args.nodes.now c.args.conn.node node (there_node c.args.nodes.now (connection_of c.args.conn) there) c.requires.whole at).pairs in
    let over : is_over (nodes.client_at c.args.conn.serial (node_seen node)) ≡ false = sym (c.is_over.ensures c.args.conn.node pairs) ∙ c.if-is_over.false in
    let down : node.replica.down ≡ false = sym c.is_down.ensures ∙ c.if-is_down.false in
    let cut : (nodes.client_at c.args.conn.serial (node_seen node)).queue.cut ≡ true = sym c.is_cut.ensures ∙ c.if-is_cut.true in
    feed_some setup c.args.nodes.now (connection_of c.args.conn) time bytes node false false true there at over down cut

pub returns : goal.returns
returns c = λ setup time bytes.
    let node = c.index-nodes-conn.result in
    let at : node ≡ get_or c.args.nodes.now c.args.conn.node node = search rules in
    let there : steps.is_client (seen_world c.args.nodes.now) (connection_of c.args.conn) ≡ true = sym c.is_there.ensures ∙ c.if-not-is_there.false in
    let pairs = (whole_of c.args.nodes.now c.args.conn.node node (there_node c.args.nodes.now (connection_of c.args.conn) there) c.requires.whole at).pairs in
    let over : is_over (nodes.client_at c.args.conn.serial (node_seen node)) ≡ false = sym (c.is_over.ensures c.args.conn.node pairs) ∙ c.if-is_over.false in
    let down : node.replica.down ≡ false = sym c.is_down.ensures ∙ c.if-is_down.false in
    let cut : (nodes.client_at c.args.conn.serial (node_seen node)).queue.cut ≡ false = sym c.is_cut.ensures ∙ c.if-is_cut.false in
    feed_some setup c.args.nodes.now (connection_of c.args.conn) time bytes node false false false there at over down cut
