use Rattle.std.proofs.Common.{rules, arith, ◌≡◌, ◌<◌, ℕ, get_or, length, ap, ◌∙◌}
use Rattle.std.specs.Prelude.{nat_lt}
use Rattle.nr_entry.specs.Jobs.{connection_of}
use Rattle.nr_world.proofs.Connects.{such_node}
use Rattle.nr_world.proofs.connection_steps.is_there.Goals as goal

pub returns : goal.returns
returns c =
    let node = c.index-nodes-conn.result in
    let at : node ≡ get_or c.args.nodes.now c.args.conn.node node = search rules in
    let long : c.len.result ≡ length node.sessions = search rules in
    let h : c.args.conn.node < length c.args.nodes.now = omega (arith, c.if-conn-nodes.false) in
    ap (λ (k : ℕ). nat_lt c.args.conn.serial k) long ∙ such_node c.args.nodes.now (connection_of c.args.conn) node c.requires.whole h at
