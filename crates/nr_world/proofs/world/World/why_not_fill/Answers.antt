use Rattle.std.proofs.Common.{rules, arith, ◌≡◌, ◌<◌, false, not, length, get_or, ap, ◌∙◌}
use Rattle.nr_model.specs.Nodes.Steps as steps
use Rattle.nr_model.specs.declared.reason.Reason.TheVariants as reasons
use Rattle.nr_world.proofs.Logged.{opened, fails, cell_is, outcome_of_fill, held_by, within_by, there_by, inside_by, at_by, cells_by, cells_all}
use Rattle.nr_world.proofs.world.World.why_not_fill.Goals as goal

pub index-requires : goal.index-requires
index-requires c =
    let o = opened _ c.args.self.now c.self.view_is c.requires.still c.self.invariant in
    let there : c.args.node < length c.self.inside.nodes.items =
    inside_by _ _ o c.args.node (omega (arith, c.nodes.ensures.value, c.if-node-nodes.false)) in
    search rules

pub index-requires-2 : goal.index-requires-2
index-requires-2 c =
    let o = opened _ c.args.self.now c.self.view_is c.requires.still c.self.invariant in
    let at : c.index.result.now ≡ get_or c.self.inside.nodes.items c.args.node c.index.result.now = search rules in
    let there : c.args.other < length c.index.result.now.unfilled.items =
    cells_by _ _ o c.args.node c.args.other c.index.result.now
    (omega (arith, c.nodes.ensures.value, c.if-node-nodes.false)) (omega (arith, c.nodes-else-node-nodes.ensures.value, c.if-other-nodes.false)) at in
    search rules

pub returns-clause-reason : goal.returns-clause-reason
returns-clause-reason c = λ world s.
    let o = opened _ c.args.self.now c.self.view_is c.requires.still c.self.invariant in
    let at : c.index.result.now ≡ get_or c.self.inside.nodes.items c.args.node c.index.result.now = search rules in
    let here : c.args.node < c.self.inside.setup.nodes = omega (arith, c.nodes.ensures.value, c.if-node-nodes.false) in
    let other : c.args.other < c.self.inside.setup.nodes = omega (arith, c.nodes-else-node-nodes.ensures.value, c.if-other-nodes.false) in
    let there = cells_by _ _ o c.args.node c.args.other c.index.result.now here other at in
    let cell : c.index-2.result.now ≡ get_or c.index.result.now.unfilled.items c.args.other c.index-2.result.now = search rules in
    outcome_of_fill c.args.self.now world c.args.node c.args.other c.index.result.now s
    (within_by _ _ o c.args.node here)
    (within_by _ _ o c.args.other other)
    (there_by _ _ o c.args.node here)
    (at_by _ _ o c.args.node c.index.result.now at)
    ∙ fails (not (get_or c.index.result.now.unfilled.items c.args.other false)) reasons.Nothing steps.Done
    (ap not (cell_is c.index.result.now.unfilled.items c.args.other c.index-2.result.now there cell ∙ c.if-not-index.false))

pub returns-clause-there : goal.returns-clause-there
returns-clause-there c =
    let o = opened _ c.args.self.now c.self.view_is c.requires.still c.self.invariant in
    there_by _ _ o c.args.node (omega (arith, c.nodes.ensures.value, c.if-node-nodes.false))

pub returns-clause-cell : goal.returns-clause-cell
returns-clause-cell c = λ d.
    let o = opened _ c.args.self.now c.self.view_is c.requires.still c.self.invariant in
    let held = held_by _ _ o in
    let there = there_by _ _ o c.args.node
    (omega (arith, c.nodes.ensures.value, c.if-node-nodes.false)) in
    let cells = cells_all c.args.self.now c.args.node d held there in
    let other = within_by _ _ o c.args.other
    (omega (arith, c.nodes-else-node-nodes.ensures.value, c.if-other-nodes.false)) in
    omega arith
