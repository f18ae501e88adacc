-- The clients of so many are let go of.
use Rattle.nr_server.proofs.Finished.{FirstPairs}
use Rattle.nr_server.specs.Parting.{HasParted}
use Rattle.nr_server.proofs.parting.finish_all.Given as goal

abbrev pub invariant-loop-left : goal.invariant-loop-left
invariant-loop-left g l = FirstPairs (HasParted g.D.Poller.parted) l.left-index l.fn.lefts l.lefts
