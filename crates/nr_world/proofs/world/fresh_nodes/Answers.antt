use Rattle.std.proofs.Common.{arith, ap, length, ◌∷◌, []}
use Rattle.std.proofs.lemmas.List.{length-append}
use Rattle.nr_model.specs.Nodes as nodes
use Rattle.nr_world.proofs.Fresh.{seen_further, whole_further}
use Rattle.nr_world.proofs.world.fresh_nodes.Goals as goal

pub loop-node-preserved : goal.loop-node-preserved
loop-node-preserved c =
    let were = c.loop-node.nodes.items in
    let made = c.in_ok-new.field-0 in
    let pushed = c.in_ok-push.ensures.items in
    record {
      count = omega (arith, ap length pushed, length-append were (made ∷ []), c.loop-node.invariant.count);
      seen = seen_further were c.push.new.self.items c.loop-node.node made (nodes.fresh_node c.args.setup) pushed c.loop-node.invariant.seen c.in_ok-new.ensures.seen;
      whole = whole_further were c.push.new.self.items c.loop-node.node made pushed c.loop-node.invariant.count c.loop-node.invariant.whole c.in_ok-new.ensures.whole;
    }
