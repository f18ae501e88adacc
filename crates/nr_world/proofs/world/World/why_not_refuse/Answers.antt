use Rattle.std.proofs.Common.{rules, arith, ◌≡◌, ◌<◌, length, get_or, sym, ◌∙◌}
use Rattle.nr_model.specs.Nodes.Steps as steps
use Rattle.nr_model.specs.declared.reason.Reason.TheVariants as reasons
use Rattle.nr_world.proofs.Replayed.{held_by, inside_by, such_by, refuse_asked, fails, holds}
use Rattle.nr_world.proofs.world.World.why_not_refuse.Goals as goal

pub index-requires : goal.index-requires
index-requires c =
    let held = held_by _ c.args.self.now c.self.view_is c.requires c.self.invariant in
    let there : c.args.node < length c.self.inside.nodes.items = inside_by _ c.args.node held (omega (arith, c.nodes.ensures.value, c.if-node-nodes.false)) in
    search rules

pub returns-then-is_down : goal.returns-then-is_down
returns-then-is_down c = record {
  is = λ events world past s.
      let held = held_by _ c.args.self.now c.self.view_is c.requires c.self.invariant in
      let at : c.index.result.now ≡ get_or c.self.inside.nodes.items c.args.node c.index.result.now = search rules in
      such_by _ c.args.self.now world c.args.node c.index.result.now refuse_asked c.self.view_is held s
      (omega (arith, c.nodes.ensures.value, c.if-node-nodes.false)) at
      ∙ holds c.index.result.now.replica.down reasons.Down steps.Done (sym c.is_down.ensures ∙ c.if-is_down.true);
}

pub returns : goal.returns
returns c = record {
  is = λ events world past s.
      let held = held_by _ c.args.self.now c.self.view_is c.requires c.self.invariant in
      let at : c.index.result.now ≡ get_or c.self.inside.nodes.items c.args.node c.index.result.now = search rules in
      such_by _ c.args.self.now world c.args.node c.index.result.now refuse_asked c.self.view_is held s
      (omega (arith, c.nodes.ensures.value, c.if-node-nodes.false)) at
      ∙ fails c.index.result.now.replica.down reasons.Down steps.Done (sym c.is_down.ensures ∙ c.if-is_down.false);
}
