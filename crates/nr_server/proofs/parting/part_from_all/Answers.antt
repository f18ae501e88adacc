-- Who waits lets go of nobody more.
use Rattle.nr_server.proofs.Finished.{still_parted}
use Rattle.nr_server.proofs.parting.part_from_all.Goals as goal

pub loop-preserved : goal.loop-preserved
loop-preserved g c = still_parted g.D.Poller.parted c.args.lefts.now c.loop.lefts c.look_once.new.lefts c.loop.invariant c.look_once.ensures
