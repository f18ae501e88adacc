use Rattle.std.proofs.Common.{arith, refl, ◌∙◌}
use Rattle.nr_world.specs.Served.{node_seen}
use Rattle.nr_world.proofs.Replayed.{none_at, goes_on}
use Rattle.nr_world.proofs.replica_steps.catch_up.Goals as goal

pub loop-init : goal.loop-init
loop-init c = record {
  passed = refl;
  within = c.requires;
  number = refl;
  ahead = λ all is. none_at c.args.node.now.replica.node _ all (node_seen c.args.node.now) (omega arith);
}

pub loop-preserved : goal.loop-preserved
loop-preserved c = record {
  passed = omega (arith, c.apply_next.ensures.passed, c.loop.invariant.passed);
  within = c.apply_next.ensures.within;
  number = c.apply_next.ensures.number ∙ c.loop.invariant.number;
  ahead = λ all is.
      goes_on c.loop.node.replica.node c.args.node.now.replica.node c.args.node.now.passed c.loop.counter all (node_seen c.args.node.now)
      (node_seen c.loop.node)
      (node_seen c.apply_next.new.node) c.loop.invariant.number (omega (arith, c.loop.auto.counter)) (c.loop.invariant.ahead all is)
      (c.apply_next.ensures.next all is);
}
