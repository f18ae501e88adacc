use Rattle.std.proofs.Common.{arith}
use Rattle.nr_server.specs.Parting.{PartsWithNone}
use Rattle.nr_server.proofs.Finished.{all_of, one_more}
use Rattle.nr_server.proofs.parting.look_once.Goals as goal

pub loop-left-preserved : goal.loop-left-preserved
loop-left-preserved g c =
    one_more (PartsWithNone g.D.Poller.parted) c.loop-left.left-index c.args.lefts.now c.loop-left.lefts c.look_at.new.left c.left-item.result
    c.loop-left.invariant (omega (arith, c.loop-left-test.true, c.loop-left.auto.lefts)) c.look_at.ensures

pub returns : goal.returns
returns g c =
    all_of (PartsWithNone g.D.Poller.parted) c.loop-left.left-index c.args.lefts.now c.loop-left.lefts
    (omega (arith, c.loop-left-test.false, c.loop-left.auto.lefts)) c.loop-left.invariant
