use Rattle.std.proofs.Common.{arith, ap, None, length, ◌∷◌, []}
use Rattle.std.proofs.lemmas.List.{length-append}
use Rattle.nr_world.proofs.Changed.{fresh_further}
use Rattle.nr_world.proofs.node.fresh_workers.Goals as goal

pub loop-preserved : goal.loop-preserved
loop-preserved c = record {
  count = omega (arith, ap length c.in_ok-push.ensures.items, length-append c.loop.workers.items (c.new.result ∷ []), c.loop.invariant.count);
  fresh = fresh_further c.loop.workers.items c.push.new.self.items c.loop.counter c.new.result c.in_ok-push.ensures.items c.loop.invariant.count
      c.loop.invariant.fresh (c.new.ensures None);
}
