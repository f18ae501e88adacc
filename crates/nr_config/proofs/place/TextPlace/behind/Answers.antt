use Rattle.std.proofs.Common.{arith}
use Rattle.nr_config.proofs.Walks.{one_further, at_end}
use Rattle.nr_config.proofs.place.TextPlace.behind.Goals as goal

pub loop-byte-preserved : goal.loop-byte-preserved
loop-byte-preserved c =
    one_further c.args.before.now c.loop-byte.byte-index c.loop-byte.place c.next-place.result c.loop-byte-test.true c.next-place.ensures c.loop-byte.invariant

pub returns : goal.returns
returns c = at_end c.args.before.now c.loop-byte.byte-index c.loop-byte.place (omega (arith, c.loop-byte-test.false)) c.loop-byte.invariant
