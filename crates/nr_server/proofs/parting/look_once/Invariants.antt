-- So many have waited.
use Rattle.nr_server.proofs.Finished.{FirstPairs}
use Rattle.nr_server.specs.Parting.{PartsWithNone}
use Rattle.nr_server.proofs.parting.look_once.Given as goal

abbrev pub invariant-loop-left : goal.invariant-loop-left
invariant-loop-left g l = FirstPairs (PartsWithNone g.D.Poller.parted) l.left-index l.fn.lefts l.lefts
