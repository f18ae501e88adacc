use Rattle.std.proofs.Common.{rules, arith, ◌≡◌, ◌<◌, length, get_or, ap, sym, ◌∙◌, ne_eqb, eq-eqb}
use Rattle.std.specs.Prelude.{not, ◌==◌}
use Rattle.nr_model.specs.Nodes.Steps as steps
use Rattle.nr_model.specs.Nodes.Steps.{is_busy}
use Rattle.nr_model.specs.declared.reason.Reason.TheVariants as reasons
use Rattle.nr_world.specs.Served.{node_seen}
use Rattle.nr_world.proofs.Replayed.{held_by, inside_by, within_by, holds, fails}
use Rattle.nr_world.proofs.Revived.{asks_by}
use Rattle.nr_world.proofs.world.World.why_not_revive.Goals as goal

pub index-node-requires : goal.index-node-requires
index-node-requires c =
    let held = held_by _ c.args.self.now c.self.view_is c.requires c.self.invariant in
    let there : c.args.number < length c.self.inside.nodes.items =
    inside_by _ c.args.number held (omega (arith, c.nodes.ensures.value, c.if-number-nodes.false)) in
    search rules

pub index-donor-requires : goal.index-donor-requires
index-donor-requires c =
    let held = held_by _ c.args.self.now c.self.view_is c.requires c.self.invariant in
    let there : c.args.other < length c.self.inside.nodes.items =
    inside_by _ c.args.other held (omega (arith, c.nodes-else-number-nodes.ensures.value, c.if-other-nodes.false)) in
    search rules

pub is_busy-requires : goal.is_busy-requires
is_busy-requires c =
    let held = held_by _ c.args.self.now c.self.view_is c.requires c.self.invariant in
    let at : c.index-node.result.now ≡ get_or c.self.inside.nodes.items c.args.number c.index-node.result.now = search rules in
    let there = inside_by _ c.args.number held (omega (arith, c.nodes.ensures.value, c.if-number-nodes.false)) in
    record { owed = (within_by _ c.args.number c.index-node.result.now held there at).whole.owed }

pub returns-then-is_down : goal.returns-then-is_down
returns-then-is_down c = record {
  is = λ events world past s.
      let held = held_by _ c.args.self.now c.self.view_is c.requires c.self.invariant in
      let at : c.index-node.result.now ≡ get_or c.self.inside.nodes.items c.args.number c.index-node.result.now = search rules in
      let other : c.index-donor.result.now ≡ get_or c.self.inside.nodes.items c.args.other c.index-donor.result.now = search rules in
      asks_by _ c.args.self.now world c.args.number c.args.other c.index-node.result.now c.index-donor.result.now c.self.view_is held s
      (omega (arith, c.nodes.ensures.value, c.if-number-nodes.false))
      (omega (arith, c.nodes-else-number-nodes.ensures.value, c.if-other-nodes.false)) at other
      ∙ holds c.index-donor.result.now.replica.down reasons.Down _ (sym c.is_down.ensures ∙ c.if-is_down.true);
}

pub returns-then-is_busy : goal.returns-then-is_busy
returns-then-is_busy c = record {
  is = λ events world past s.
      let held = held_by _ c.args.self.now c.self.view_is c.requires c.self.invariant in
      let at : c.index-node.result.now ≡ get_or c.self.inside.nodes.items c.args.number c.index-node.result.now = search rules in
      let other : c.index-donor.result.now ≡ get_or c.self.inside.nodes.items c.args.other c.index-donor.result.now = search rules in
      asks_by _ c.args.self.now world c.args.number c.args.other c.index-node.result.now c.index-donor.result.now c.self.view_is held s
      (omega (arith, c.nodes.ensures.value, c.if-number-nodes.false))
      (omega (arith, c.nodes-else-number-nodes.ensures.value, c.if-other-nodes.false)) at other
      ∙ fails c.index-donor.result.now.replica.down reasons.Down _ (sym c.is_down.ensures ∙ c.if-is_down.false)
      ∙ holds (is_busy (node_seen c.index-node.result.now)) reasons.Busy _ (sym c.is_busy.ensures ∙ c.if-is_busy.true);
}

pub returns-then-not-is_down : goal.returns-then-not-is_down
returns-then-not-is_down c = record {
  is = λ events world past s.
      let held = held_by _ c.args.self.now c.self.view_is c.requires c.self.invariant in
      let at : c.index-node.result.now ≡ get_or c.self.inside.nodes.items c.args.number c.index-node.result.now = search rules in
      let other : c.index-donor.result.now ≡ get_or c.self.inside.nodes.items c.args.other c.index-donor.result.now = search rules in
      asks_by _ c.args.self.now world c.args.number c.args.other c.index-node.result.now c.index-donor.result.now c.self.view_is held s
      (omega (arith, c.nodes.ensures.value, c.if-number-nodes.false))
      (omega (arith, c.nodes-else-number-nodes.ensures.value, c.if-other-nodes.false)) at other
      ∙ fails c.index-donor.result.now.replica.down reasons.Down _ (sym c.is_down.ensures ∙ c.if-is_down.false)
      ∙ fails (is_busy (node_seen c.index-node.result.now)) reasons.Busy _ (sym c.is_busy.ensures ∙ c.if-is_busy.false)
      ∙ holds (not c.index-node.result.now.replica.down) reasons.Nothing _ (ap not (sym c.is_down-2.ensures ∙ c.if-not-is_down.true));
}

pub returns-then-node-donor : goal.returns-then-node-donor
returns-then-node-donor c = record {
  is = λ events world past s.
      let held = held_by _ c.args.self.now c.self.view_is c.requires c.self.invariant in
      let at : c.index-node.result.now ≡ get_or c.self.inside.nodes.items c.args.number c.index-node.result.now = search rules in
      let other : c.index-donor.result.now ≡ get_or c.self.inside.nodes.items c.args.other c.index-donor.result.now = search rules in
      asks_by _ c.args.self.now world c.args.number c.args.other c.index-node.result.now c.index-donor.result.now c.self.view_is held s
      (omega (arith, c.nodes.ensures.value, c.if-number-nodes.false))
      (omega (arith, c.nodes-else-number-nodes.ensures.value, c.if-other-nodes.false)) at other
      ∙ fails c.index-donor.result.now.replica.down reasons.Down _ (sym c.is_down.ensures ∙ c.if-is_down.false)
      ∙ fails (is_busy (node_seen c.index-node.result.now)) reasons.Busy _ (sym c.is_busy.ensures ∙ c.if-is_busy.false)
      ∙ fails (not c.index-node.result.now.replica.down) reasons.Nothing _ (ap not (sym c.is_down-2.ensures ∙ c.if-not-is_down.false))
      ∙ holds (not (c.index-node.result.now.passed == c.index-donor.result.now.passed)) reasons.NotYet steps.Done
      (ap not (ne_eqb c.index-node.result.now.passed c.index-donor.result.now.passed c.if-node-donor.true));
}

pub returns : goal.returns
returns c = record {
  is = λ events world past s.
      let held = held_by _ c.args.self.now c.self.view_is c.requires c.self.invariant in
      let at : c.index-node.result.now ≡ get_or c.self.inside.nodes.items c.args.number c.index-node.result.now = search rules in
      let other : c.index-donor.result.now ≡ get_or c.self.inside.nodes.items c.args.other c.index-donor.result.now = search rules in
      asks_by _ c.args.self.now world c.args.number c.args.other c.index-node.result.now c.index-donor.result.now c.self.view_is held s
      (omega (arith, c.nodes.ensures.value, c.if-number-nodes.false))
      (omega (arith, c.nodes-else-number-nodes.ensures.value, c.if-other-nodes.false)) at other
      ∙ fails c.index-donor.result.now.replica.down reasons.Down _ (sym c.is_down.ensures ∙ c.if-is_down.false)
      ∙ fails (is_busy (node_seen c.index-node.result.now)) reasons.Busy _ (sym c.is_busy.ensures ∙ c.if-is_busy.false)
      ∙ fails (not c.index-node.result.now.replica.down) reasons.Nothing _ (ap not (sym c.is_down-2.ensures ∙ c.if-not-is_down.false))
      ∙ fails (not (c.index-node.result.now.passed == c.index-donor.result.now.passed)) reasons.NotYet steps.Done
      (ap not (eq-eqb c.index-node.result.now.passed c.index-donor.result.now.passed c.if-node-donor.false));
}
