-- The clients of all are let go of.
use Rattle.nr_server.specs.Parting.{HaveParted}
use Rattle.nr_server.proofs.parting.part_from_all.Given as goal

abbrev pub invariant-loop : goal.invariant-loop
invariant-loop g l = HaveParted g.D.Poller.parted l.fn.lefts l.lefts
