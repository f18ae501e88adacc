use Rattle.std.proofs.Common.{rules, arith, refl, true, false, ◌≡◌, ◌<◌, get_or, length, ap, sym, ◌∙◌}
use Rattle.std.specs.Prelude.{nat_le}
use Rattle.std.proofs.lemmas.Bool.{and_from, lt-ltb, le-leb, lt-leb}
use Rattle.nr_model.specs.Nodes.Steps as steps
use Rattle.nr_world.specs.declared.node.WorldNode.{WorldNode}
use Rattle.nr_world.proofs.Connects.{open_some, whole_of}
use Rattle.nr_world.proofs.connection_steps.why_not_open.Goals as goal

pub returns-then-at-connections : goal.returns-then-at-connections
returns-then-at-connections c =
    let old = c.index-nodes-node.result in
    let at : old ≡ get_or c.args.nodes.now c.args.node old = search rules in
    let h : c.args.node < length c.args.nodes.now = omega (arith, c.requires.sized, c.nodes.ensures.value, c.if-node-nodes.false) in
    let whole = whole_of c.args.nodes.now c.args.node old h c.requires.whole at in
    let worker : steps.is_worker c.args.setup c.args.node c.args.worker ≡ true =
    and_from _ _ (lt-ltb c.args.node c.args.setup.nodes (omega (arith, c.nodes.ensures.value, c.if-node-nodes.false)))
    (lt-ltb c.args.worker c.args.setup.workers (omega (arith, c.workers.ensures.value, c.if-worker-workers.false))) in
    let many : nat_le c.args.setup.connections old.in_use ≡ true =
    le-leb c.args.setup.connections old.in_use (omega (arith, c.connections.ensures.value, c.if-at-connections.true, ap (λ (x : WorldNode). x.in_use) at)) in
    open_some c.args.setup c.args.nodes.now c.args.node c.args.worker old true old.replica.down worker h at whole many refl

pub returns-then-is_down : goal.returns-then-is_down
returns-then-is_down c =
    let old = c.index-nodes-node.result in
    let at : old ≡ get_or c.args.nodes.now c.args.node old = search rules in
    let h : c.args.node < length c.args.nodes.now = omega (arith, c.requires.sized, c.nodes.ensures.value, c.if-node-nodes.false) in
    let whole = whole_of c.args.nodes.now c.args.node old h c.requires.whole at in
    let worker : steps.is_worker c.args.setup c.args.node c.args.worker ≡ true =
    and_from _ _ (lt-ltb c.args.node c.args.setup.nodes (omega (arith, c.nodes.ensures.value, c.if-node-nodes.false)))
    (lt-ltb c.args.worker c.args.setup.workers (omega (arith, c.workers.ensures.value, c.if-worker-workers.false))) in
    let many : nat_le c.args.setup.connections old.in_use ≡ false =
    lt-leb c.args.setup.connections old.in_use (omega (arith, c.connections.ensures.value, c.if-at-connections.false, ap (λ (x : WorldNode). x.in_use) at)) in
    let down : old.replica.down ≡ true = sym c.is_down.ensures ∙ c.if-is_down.true in
    open_some c.args.setup c.args.nodes.now c.args.node c.args.worker old false true worker h at whole many down

pub returns : goal.returns
returns c =
    let old = c.index-nodes-node.result in
    let at : old ≡ get_or c.args.nodes.now c.args.node old = search rules in
    let h : c.args.node < length c.args.nodes.now = omega (arith, c.requires.sized, c.nodes.ensures.value, c.if-node-nodes.false) in
    let whole = whole_of c.args.nodes.now c.args.node old h c.requires.whole at in
    let worker : steps.is_worker c.args.setup c.args.node c.args.worker ≡ true =
    and_from _ _ (lt-ltb c.args.node c.args.setup.nodes (omega (arith, c.nodes.ensures.value, c.if-node-nodes.false)))
    (lt-ltb c.args.worker c.args.setup.workers (omega (arith, c.workers.ensures.value, c.if-worker-workers.false))) in
    let many : nat_le c.args.setup.connections old.in_use ≡ false =
    lt-leb c.args.setup.connections old.in_use (omega (arith, c.connections.ensures.value, c.if-at-connections.false, ap (λ (x : WorldNode). x.in_use) at)) in
    let down : old.replica.down ≡ false = sym c.is_down.ensures ∙ c.if-is_down.false in
    open_some c.args.setup c.args.nodes.now c.args.node c.args.worker old false false worker h at whole many down
