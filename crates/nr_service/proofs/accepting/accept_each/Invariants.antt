-- All were served so far, and at most one came in each step.
use Rattle.nr_service.specs.Arriving.{ArrivesFew}
use Rattle.nr_service.specs.Silence.{OpensAt}
use Rattle.nr_service.specs.Steps.{Accepts}
use Rattle.nr_service.proofs.accepting.accept_each.Given as goal

abbrev pub invariant-loop : goal.invariant-loop
invariant-loop g l = record {
  accepts : Accepts g.S.Stream.received g.S.Stream.sent g.S.Stream.course g.A.Backend.is_past g.A.Backend.kept l.fn.answers l.answers
      l.fn.clients.items l.clients.items;
  arrives : ArrivesFew l.counter g.A.Backend.is_full g.A.Backend.is_placed g.D.Poller.parted l.fn.answers l.answers l.fn.accepted l.accepted l.fn.device l.device
      l.fn.clients.items l.clients.items;
  opens : OpensAt l.fn.moment l.fn.clients.items l.clients.items;
}
