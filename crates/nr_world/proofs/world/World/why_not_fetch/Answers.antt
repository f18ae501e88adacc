use Rattle.std.proofs.Common.{rules, arith, ◌≡◌, ◌+◌, ◌<◌, not, length, get_or, ap, sym, ◌∙◌}
use Rattle.std.proofs.lemmas.Bool.{eq-eqb, ne_eqb}
use Rattle.std.specs.Prelude.{◌==◌}
use Rattle.nr_model.specs.Nodes.Steps as steps
use Rattle.nr_model.specs.declared.reason.Reason.TheVariants as reasons
use Rattle.nr_world.specs.Logs.{log_seen}
use Rattle.nr_world.proofs.Logged.{opened, holds, fails, outcome_of_fetch, within_by, there_by, inside_by, at_by, least_by, most_by, tail_by}
use Rattle.nr_world.proofs.world.World.why_not_fetch.Goals as goal

pub index-node-requires : goal.index-node-requires
index-node-requires c =
    let o = opened _ c.args.self.now c.self.view_is c.requires.still c.self.invariant in
    let there : c.args.number < length c.self.inside.nodes.items =
    inside_by _ _ o c.args.number
    (omega (arith, c.nodes.ensures.value, c.if-number-nodes.false)) in
    search rules

pub is_filled-requires-clause-there : goal.is_filled-requires-clause-there
is_filled-requires-clause-there c =
    let o = opened _ c.args.self.now c.self.view_is c.requires.still c.self.invariant in
    there_by _ _ o c.args.number (omega (arith, c.nodes.ensures.value, c.if-number-nodes.false))

pub is_filled-requires-clause-base : goal.is_filled-requires-clause-base
is_filled-requires-clause-base c =
    let o = opened _ c.args.self.now c.self.view_is c.requires.still c.self.invariant in
    let at : c.index-node.result.now ≡ get_or c.self.inside.nodes.items c.args.number c.index-node.result.now = search rules in
    least_by _ _ o c.args.number c.index-node.result.now
    (omega (arith, c.nodes.ensures.value, c.if-number-nodes.false)) at

pub is_filled-requires-clause-tail : goal.is_filled-requires-clause-tail
is_filled-requires-clause-tail c =
    let o = opened _ c.args.self.now c.self.view_is c.requires.still c.self.invariant in
    let at : c.index-node.result.now ≡ get_or c.self.inside.nodes.items c.args.number c.index-node.result.now = search rules in
    most_by _ _ o c.args.number c.tail.result c.index-node.result.now
    (omega (arith, c.nodes.ensures.value, c.if-number-nodes.false)) at c.tail.ensures c.if-node-tail.false

pub returns-then-node-clause-reason : goal.returns-then-node-clause-reason
returns-then-node-clause-reason c = λ events world past s.
    let o = opened _ c.args.self.now c.self.view_is c.requires.still c.self.invariant in
    let at : c.index-node.result.now ≡ get_or c.self.inside.nodes.items c.args.number c.index-node.result.now = search rules in
    let here : c.args.number < c.self.inside.setup.nodes = omega (arith, c.nodes.ensures.value, c.if-number-nodes.false) in
    outcome_of_fetch c.args.self.now world c.args.number c.index-node.result.now s
    (within_by _ _ o c.args.number here)
    (there_by _ _ o c.args.number here)
    (at_by _ _ o c.args.number c.index-node.result.now at)
    ∙ holds c.index-node.result.now.is_fetched reasons.Busy _ c.if-node.true

pub returns-then-node-tail-clause-reason : goal.returns-then-node-tail-clause-reason
returns-then-node-tail-clause-reason c = λ events world past s.
    let o = opened _ c.args.self.now c.self.view_is c.requires.still c.self.invariant in
    let at : c.index-node.result.now ≡ get_or c.self.inside.nodes.items c.args.number c.index-node.result.now = search rules in
    let here : c.args.number < c.self.inside.setup.nodes = omega (arith, c.nodes.ensures.value, c.if-number-nodes.false) in
    let end = tail_by _ _ o c.tail.result c.tail.ensures in
    outcome_of_fetch c.args.self.now world c.args.number c.index-node.result.now s
    (within_by _ _ o c.args.number here)
    (there_by _ _ o c.args.number here)
    (at_by _ _ o c.args.number c.index-node.result.now at)
    ∙ fails c.index-node.result.now.is_fetched reasons.Busy _ c.if-node.false
    ∙ holds (c.index-node.result.now.passed == (c.args.self.now.log.base + length (log_seen c.args.self.now.log))) reasons.Nothing _
    (eq-eqb c.index-node.result.now.passed (c.args.self.now.log.base + length (log_seen c.args.self.now.log)) (c.if-node-tail.true ∙ end))

pub returns-then-not-is_filled-clause-reason : goal.returns-then-not-is_filled-clause-reason
returns-then-not-is_filled-clause-reason c = λ events world past s.
    let o = opened _ c.args.self.now c.self.view_is c.requires.still c.self.invariant in
    let at : c.index-node.result.now ≡ get_or c.self.inside.nodes.items c.args.number c.index-node.result.now = search rules in
    let here : c.args.number < c.self.inside.setup.nodes = omega (arith, c.nodes.ensures.value, c.if-number-nodes.false) in
    let end = tail_by _ _ o c.tail.result c.tail.ensures in
    outcome_of_fetch c.args.self.now world c.args.number c.index-node.result.now s
    (within_by _ _ o c.args.number here)
    (there_by _ _ o c.args.number here)
    (at_by _ _ o c.args.number c.index-node.result.now at)
    ∙ fails c.index-node.result.now.is_fetched reasons.Busy _ c.if-node.false
    ∙ fails (c.index-node.result.now.passed == (c.args.self.now.log.base + length (log_seen c.args.self.now.log))) reasons.Nothing _
    (ne_eqb c.index-node.result.now.passed (c.args.self.now.log.base + length (log_seen c.args.self.now.log)) (λ same. c.if-node-tail.false (same ∙ sym end)))
    ∙ holds (not (steps.is_filled world c.args.number c.index-node.result.now.passed)) reasons.NotYet _
    (ap not (sym (c.is_filled.ensures events world past s) ∙ c.if-not-is_filled.true))

pub returns-clause-reason : goal.returns-clause-reason
returns-clause-reason c = λ events world past s.
    let o = opened _ c.args.self.now c.self.view_is c.requires.still c.self.invariant in
    let at : c.index-node.result.now ≡ get_or c.self.inside.nodes.items c.args.number c.index-node.result.now = search rules in
    let here : c.args.number < c.self.inside.setup.nodes = omega (arith, c.nodes.ensures.value, c.if-number-nodes.false) in
    let end = tail_by _ _ o c.tail.result c.tail.ensures in
    outcome_of_fetch c.args.self.now world c.args.number c.index-node.result.now s
    (within_by _ _ o c.args.number here)
    (there_by _ _ o c.args.number here)
    (at_by _ _ o c.args.number c.index-node.result.now at)
    ∙ fails c.index-node.result.now.is_fetched reasons.Busy _ c.if-node.false
    ∙ fails (c.index-node.result.now.passed == (c.args.self.now.log.base + length (log_seen c.args.self.now.log))) reasons.Nothing _
    (ne_eqb c.index-node.result.now.passed (c.args.self.now.log.base + length (log_seen c.args.self.now.log)) (λ same. c.if-node-tail.false (same ∙ sym end)))
    ∙ fails (not (steps.is_filled world c.args.number c.index-node.result.now.passed)) reasons.NotYet _
    (ap not (sym (c.is_filled.ensures events world past s) ∙ c.if-not-is_filled.false))

pub returns-clause-there : goal.returns-clause-there
returns-clause-there c =
    let o = opened _ c.args.self.now c.self.view_is c.requires.still c.self.invariant in
    there_by _ _ o c.args.number (omega (arith, c.nodes.ensures.value, c.if-number-nodes.false))
