use Rattle.std.proofs.Common.{rules, arith, ◌≡◌, ◌<◌, not, length, get_or, ap, ◌∙◌}
use Rattle.nr_model.specs.Nodes.Steps as steps
use Rattle.nr_model.specs.declared.reason.Reason.TheVariants as reasons
use Rattle.nr_world.proofs.Replayed.{held_by, inside_by, such_by, apply_asked, fails, holds}
use Rattle.nr_world.proofs.world.World.why_not_apply.Goals as goal

pub index-requires : goal.index-requires
index-requires c =
    let held = held_by _ c.args.self.now c.self.view_is c.requires c.self.invariant in
    let there : c.args.node < length c.self.inside.nodes.items = inside_by _ c.args.node held (omega (arith, c.nodes.ensures.value, c.if-node-nodes.false)) in
    search rules

pub returns-then-not-index : goal.returns-then-not-index
returns-then-not-index c = record {
  is = λ events world past s.
      let held = held_by _ c.args.self.now c.self.view_is c.requires c.self.invariant in
      let at : c.index.result.now ≡ get_or c.self.inside.nodes.items c.args.node c.index.result.now = search rules in
      such_by _ c.args.self.now world c.args.node c.index.result.now apply_asked c.self.view_is held s
      (omega (arith, c.nodes.ensures.value, c.if-node-nodes.false)) at
      ∙ holds (not c.index.result.now.is_fetched) reasons.Nothing steps.Done (ap not c.if-not-index.true);
}

pub returns : goal.returns
returns c = record {
  is = λ events world past s.
      let held = held_by _ c.args.self.now c.self.view_is c.requires c.self.invariant in
      let at : c.index.result.now ≡ get_or c.self.inside.nodes.items c.args.node c.index.result.now = search rules in
      such_by _ c.args.self.now world c.args.node c.index.result.now apply_asked c.self.view_is held s
      (omega (arith, c.nodes.ensures.value, c.if-node-nodes.false)) at
      ∙ fails (not c.index.result.now.is_fetched) reasons.Nothing steps.Done (ap not c.if-not-index.false);
}
