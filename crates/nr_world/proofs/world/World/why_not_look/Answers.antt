use Rattle.std.proofs.Common.{rules, arith, ◌≡◌, ◌<◌, not, length, get_or, ap, sym, ◌∙◌}
use Rattle.nr_model.specs.Nodes.Steps as steps
use Rattle.nr_model.specs.declared.reason.Reason.TheVariants as reasons
use Rattle.nr_world.specs.Served.{node_seen}
use Rattle.nr_world.proofs.Replayed.{held_by, inside_by, fetch_fits, next_ready, there_by, such_by, look_asked, look_down, look_nothing, look_filled}
use Rattle.nr_world.proofs.world.World.why_not_look.Goals as goal

pub index-node-requires : goal.index-node-requires
index-node-requires c =
    let held = held_by _ c.args.self.now c.self.view_is c.requires c.self.invariant in
    let there : c.args.number < length c.self.inside.nodes.items = inside_by _ c.args.number held
    (omega (arith, c.nodes.ensures.value, c.if-number-nodes.false)) in
    search rules

pub next_fetch-requires : goal.next_fetch-requires
next_fetch-requires c =
    let held = held_by _ c.args.self.now c.self.view_is c.requires c.self.invariant in
    let at : c.index-node.result.now ≡ get_or c.self.inside.nodes.items c.args.number c.index-node.result.now = search rules in
    fetch_fits _ c.args.number c.index-node.result.now held (inside_by _ c.args.number held (omega (arith, c.nodes.ensures.value, c.if-number-nodes.false))) at

pub are_filled-requires-clause-there : goal.are_filled-requires-clause-there
are_filled-requires-clause-there c =
    let held = held_by _ c.args.self.now c.self.view_is c.requires c.self.invariant in
    there_by _ c.args.self.now c.args.number c.self.view_is (inside_by _ c.args.number held (omega (arith, c.nodes.ensures.value, c.if-number-nodes.false)))

pub are_filled-requires-clause-base : goal.are_filled-requires-clause-base
are_filled-requires-clause-base c =
    let held = held_by _ c.args.self.now c.self.view_is c.requires c.self.invariant in
    let at : c.index-node.result.now ≡ get_or c.self.inside.nodes.items c.args.number c.index-node.result.now = search rules in
    (next_ready _ c.args.self.now c.args.number c.index-node.result.now c.next_fetch.result c.self.view_is held
    (inside_by _ c.args.number held (omega (arith, c.nodes.ensures.value, c.if-number-nodes.false))) at c.next_fetch.ensures).0

pub are_filled-requires-clause-tail : goal.are_filled-requires-clause-tail
are_filled-requires-clause-tail c =
    let held = held_by _ c.args.self.now c.self.view_is c.requires c.self.invariant in
    let at : c.index-node.result.now ≡ get_or c.self.inside.nodes.items c.args.number c.index-node.result.now = search rules in
    (next_ready _ c.args.self.now c.args.number c.index-node.result.now c.next_fetch.result c.self.view_is held
    (inside_by _ c.args.number held (omega (arith, c.nodes.ensures.value, c.if-number-nodes.false))) at c.next_fetch.ensures).1

pub returns-then-is_down : goal.returns-then-is_down
returns-then-is_down c = record {
  is = λ events world past s.
      let held = held_by _ c.args.self.now c.self.view_is c.requires c.self.invariant in
      let at : c.index-node.result.now ≡ get_or c.self.inside.nodes.items c.args.number c.index-node.result.now = search rules in
      such_by _ c.args.self.now world c.args.number c.index-node.result.now (look_asked world c.args.number) c.self.view_is held s
      (omega (arith, c.nodes.ensures.value, c.if-number-nodes.false)) at
      ∙ look_down world c.args.number (node_seen c.index-node.result.now) (sym c.is_down.ensures ∙ c.if-is_down.true);
}

pub returns-then-not-leads_read : goal.returns-then-not-leads_read
returns-then-not-leads_read c = record {
  is = λ events world past s.
      let held = held_by _ c.args.self.now c.self.view_is c.requires c.self.invariant in
      let at : c.index-node.result.now ≡ get_or c.self.inside.nodes.items c.args.number c.index-node.result.now = search rules in
      such_by _ c.args.self.now world c.args.number c.index-node.result.now (look_asked world c.args.number) c.self.view_is held s
      (omega (arith, c.nodes.ensures.value, c.if-number-nodes.false)) at
      ∙ look_nothing world c.args.number (node_seen c.index-node.result.now) (sym c.is_down.ensures ∙ c.if-is_down.false) (sym c.leads_read.ensures
      ∙ c.if-not-leads_read.true);
}

pub returns-then-not-are_filled : goal.returns-then-not-are_filled
returns-then-not-are_filled c = record {
  is = λ events world past s.
      let held = held_by _ c.args.self.now c.self.view_is c.requires c.self.invariant in
      let at : c.index-node.result.now ≡ get_or c.self.inside.nodes.items c.args.number c.index-node.result.now = search rules in
      such_by _ c.args.self.now world c.args.number c.index-node.result.now (look_asked world c.args.number) c.self.view_is held s
      (omega (arith, c.nodes.ensures.value, c.if-number-nodes.false)) at
      ∙ look_filled world c.args.number (node_seen c.index-node.result.now) c.next_fetch.result c.are_filled.result (sym c.is_down.ensures ∙ c.if-is_down.false)
      (sym c.leads_read.ensures ∙ c.if-not-leads_read.false) c.next_fetch.ensures (c.are_filled.ensures events world past s)
      ∙ ap (λ b. steps.idle_where (not b) reasons.NotYet steps.Done) c.if-not-are_filled.true;
}

pub returns : goal.returns
returns c = record {
  is = λ events world past s.
      let held = held_by _ c.args.self.now c.self.view_is c.requires c.self.invariant in
      let at : c.index-node.result.now ≡ get_or c.self.inside.nodes.items c.args.number c.index-node.result.now = search rules in
      such_by _ c.args.self.now world c.args.number c.index-node.result.now (look_asked world c.args.number) c.self.view_is held s
      (omega (arith, c.nodes.ensures.value, c.if-number-nodes.false)) at
      ∙ look_filled world c.args.number (node_seen c.index-node.result.now) c.next_fetch.result c.are_filled.result (sym c.is_down.ensures ∙ c.if-is_down.false)
      (sym c.leads_read.ensures ∙ c.if-not-leads_read.false) c.next_fetch.ensures (c.are_filled.ensures events world past s)
      ∙ ap (λ b. steps.idle_where (not b) reasons.NotYet steps.Done) c.if-not-are_filled.false;
}
