-- All are served where they were at first, by whole turns, of which no more were taken than were asked for.
use Rattle.std.proofs.Common.{◌≤◌, true}
use Rattle.nr_model.specs.Connections.{Setup}
use Rattle.nr_service.specs.Serving.{IsServing}
use Rattle.nr_service.specs.Turns.{Turns}
use Rattle.nr_service.specs.Endings.{IsGoing}
use Rattle.nr_service.proofs.Chained.{HasTaken}
use Rattle.nr_service.proofs.service.Service.serve.Given as goal

abbrev pub invariant-loop-asked : goal.invariant-loop-asked
invariant-loop-asked g l = record {
  turns : l.turn ≤ l.asked;
  taken : HasTaken (g.G.Gate.says l.fn.gate l.fn.self.node l.fn.self.worker) (IsGoing g.A.Backend.falls)
      (Turns g.S.Stream.received g.S.Stream.sent g.S.Stream.course g.A.Backend.is_past g.A.Backend.is_settled g.A.Backend.kept g.A.Backend.stands g.A.Backend.busy
      g.A.Backend.is_full g.A.Backend.is_placed g.A.Backend.is_gone g.D.Poller.parted g.D.Poller.waits g.M.Moments.gives true) l.left l.turn l.asked l.fn.self l.self;
  serving : (first : _) (setup : Setup)
      → IsServing g.S.Stream.received g.S.Stream.sent g.S.Stream.course g.M.Moments.gives g.A.Backend.is_past g.A.Backend.kept g.D.Poller.parted first setup l.fn.self
      → IsServing g.S.Stream.received g.S.Stream.sent g.S.Stream.course g.M.Moments.gives g.A.Backend.is_past g.A.Backend.kept g.D.Poller.parted first setup l.self;
}
