use Rattle.std.proofs.Common.{rules, arith, ◌≡◌, ◌<◌, not, length, get_or, ap, sym, ◌∙◌}
use Rattle.std.specs.List.{list_any}
use Rattle.nr_model.specs.Entries.{entry_jobs}
use Rattle.nr_model.specs.Nodes.Steps as steps
use Rattle.nr_model.specs.declared.reason.Reason.TheVariants as reasons
use Rattle.nr_entry.specs.Waiting.{has_some}
use Rattle.nr_world.specs.Served.{node_seen}
use Rattle.nr_world.specs.declared.node.WorldNode.{WorldNode}
use Rattle.nr_world.proofs.Sides.{any_default}
use Rattle.nr_world.proofs.Logged.{opened, holds, fails, some_lead, outcome_of_reserve, within_by, there_by, inside_by, at_by}
use Rattle.nr_world.proofs.world.World.why_not_reserve.Goals as goal

pub index-node-requires : goal.index-node-requires
index-node-requires c =
    let o = opened _ c.args.self.now c.self.view_is c.requires.still c.self.invariant in
    let there : c.args.number < length c.self.inside.nodes.items =
    inside_by _ _ o c.args.number
    (omega (arith, c.nodes.ensures.value, c.if-number-nodes.false)) in
    search rules

pub returns-then-is_down-clause-reason : goal.returns-then-is_down-clause-reason
returns-then-is_down-clause-reason c = λ world s.
    let o = opened _ c.args.self.now c.self.view_is c.requires.still c.self.invariant in
    let at : c.index-node.result.now ≡ get_or c.self.inside.nodes.items c.args.number c.index-node.result.now = search rules in
    let here : c.args.number < c.self.inside.setup.nodes = omega (arith, c.nodes.ensures.value, c.if-number-nodes.false) in
    outcome_of_reserve c.args.self.now world c.args.number c.index-node.result.now s
    (within_by _ _ o c.args.number here)
    (there_by _ _ o c.args.number here)
    (at_by _ _ o c.args.number c.index-node.result.now at)
    ∙ holds c.index-node.result.now.replica.down reasons.Down _ (sym c.is_down.ensures ∙ c.if-is_down.true)

pub returns-then-is_filling-clause-reason : goal.returns-then-is_filling-clause-reason
returns-then-is_filling-clause-reason c = λ world s.
    let o = opened _ c.args.self.now c.self.view_is c.requires.still c.self.invariant in
    let at : c.index-node.result.now ≡ get_or c.self.inside.nodes.items c.args.number c.index-node.result.now = search rules in
    let here : c.args.number < c.self.inside.setup.nodes = omega (arith, c.nodes.ensures.value, c.if-number-nodes.false) in
    outcome_of_reserve c.args.self.now world c.args.number c.index-node.result.now s
    (within_by _ _ o c.args.number here)
    (there_by _ _ o c.args.number here)
    (at_by _ _ o c.args.number c.index-node.result.now at)
    ∙ fails c.index-node.result.now.replica.down reasons.Down _ (sym c.is_down.ensures ∙ c.if-is_down.false)
    ∙ holds (list_any steps.is_true c.index-node.result.now.unfilled.items) reasons.Busy _ (sym c.is_filling.ensures ∙ c.if-is_filling.true)

pub returns-then-not-has_place-clause-reason : goal.returns-then-not-has_place-clause-reason
returns-then-not-has_place-clause-reason c = λ world s.
    let o = opened _ c.args.self.now c.self.view_is c.requires.still c.self.invariant in
    let at : c.index-node.result.now ≡ get_or c.self.inside.nodes.items c.args.number c.index-node.result.now = search rules in
    let here : c.args.number < c.self.inside.setup.nodes = omega (arith, c.nodes.ensures.value, c.if-number-nodes.false) in
    let jobs = entry_jobs (node_seen c.index-node.result.now).waiting in
    outcome_of_reserve c.args.self.now world c.args.number c.index-node.result.now s
    (within_by _ _ o c.args.number here)
    (there_by _ _ o c.args.number here)
    (at_by _ _ o c.args.number c.index-node.result.now at)
    ∙ fails c.index-node.result.now.replica.down reasons.Down _ (sym c.is_down.ensures ∙ c.if-is_down.false)
    ∙ fails (list_any steps.is_true c.index-node.result.now.unfilled.items) reasons.Busy _ (sym c.is_filling.ensures ∙ c.if-is_filling.false)
    ∙ fails (steps.is_empty jobs) reasons.Nothing _ (some_lead jobs (sym c.leads_update.ensures ∙ c.if-not-leads_update.false))
    ∙ holds (not (steps.has_place c.args.self.now.setup world)) reasons.Full _ (ap not (sym (c.has_place.ensures world s) ∙ c.if-not-has_place.true))

pub returns-clause-reason : goal.returns-clause-reason
returns-clause-reason c = λ world s.
    let o = opened _ c.args.self.now c.self.view_is c.requires.still c.self.invariant in
    let at : c.index-node.result.now ≡ get_or c.self.inside.nodes.items c.args.number c.index-node.result.now = search rules in
    let here : c.args.number < c.self.inside.setup.nodes = omega (arith, c.nodes.ensures.value, c.if-number-nodes.false) in
    let jobs = entry_jobs (node_seen c.index-node.result.now).waiting in
    outcome_of_reserve c.args.self.now world c.args.number c.index-node.result.now s
    (within_by _ _ o c.args.number here)
    (there_by _ _ o c.args.number here)
    (at_by _ _ o c.args.number c.index-node.result.now at)
    ∙ fails c.index-node.result.now.replica.down reasons.Down _ (sym c.is_down.ensures ∙ c.if-is_down.false)
    ∙ fails (list_any steps.is_true c.index-node.result.now.unfilled.items) reasons.Busy _ (sym c.is_filling.ensures ∙ c.if-is_filling.false)
    ∙ fails (steps.is_empty jobs) reasons.Nothing _ (some_lead jobs (sym c.leads_update.ensures ∙ c.if-not-leads_update.false))
    ∙ fails (not (steps.has_place c.args.self.now.setup world)) reasons.Full _ (ap not (sym (c.has_place.ensures world s) ∙ c.if-not-has_place.false))

pub returns-clause-there : goal.returns-clause-there
returns-clause-there c =
    let o = opened _ c.args.self.now c.self.view_is c.requires.still c.self.invariant in
    there_by _ _ o c.args.number (omega (arith, c.nodes.ensures.value, c.if-number-nodes.false))

pub returns-clause-leads : goal.returns-clause-leads
returns-clause-leads c = λ d.
    let o = opened _ c.args.self.now c.self.view_is c.requires.still c.self.invariant in
    let node : WorldNode = c.index-node.result.now in
    let at : node ≡ get_or c.self.inside.nodes.items c.args.number node = search rules in
    let here : c.args.number < c.self.inside.setup.nodes = omega (arith, c.nodes.ensures.value, c.if-number-nodes.false) in
    let there = there_by _ _ o c.args.number here in
    let is : get_or c.args.self.now.nodes c.args.number d ≡ node =
    any_default c.args.self.now.nodes c.args.number d node there ∙ sym
    (at_by _ _ o c.args.number node at) in
    ap (λ (x : WorldNode). has_some (entry_jobs (node_seen x).waiting)) is ∙ sym c.leads_update.ensures ∙ c.if-not-leads_update.false
