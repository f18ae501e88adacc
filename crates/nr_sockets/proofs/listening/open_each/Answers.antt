use Rattle.std.proofs.Common.{arith}
use Rattle.nr_sockets.proofs.Saying.{each_said, more_said}
use Rattle.nr_sockets.proofs.listening.open_each.Goals as goal

pub loop-place-preserved : goal.loop-place-preserved
loop-place-preserved g c = record {
  count = more_said c.args.addresses.now _ _ c.index-addresses-place.result c.as_str.result.now _ c.in-Ok.ensures.ok c.loop-place.invariant.count;
  each = each_said c.args.addresses.now _ _ c.index-addresses-place.result c.as_str.result.now _ c.in-Ok.ensures.ok c.loop-place.invariant.count c.as_str.ensures.value
      c.index-addresses-place.is c.loop-place.invariant.each;
  opened = omega (arith, c.in-Ok.ensures.opened, c.loop-place.invariant.opened);
}
