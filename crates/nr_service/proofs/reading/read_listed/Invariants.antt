-- All were served so far, and they are of the same connections.
use Rattle.std.proofs.Common.{◌≡◌, [], map}
use Rattle.nr_service.specs.Readings.{IsFedAmong}
use Rattle.nr_service.specs.Serving.{connection}
use Rattle.nr_service.specs.Silence.{AreHeard}
use Rattle.nr_service.specs.Steps.{Serves}
use Rattle.nr_service.proofs.reading.read_listed.Given as goal

abbrev pub invariant-loop-visit : goal.invariant-loop-visit
invariant-loop-visit g l = record {
  served : Serves g.S.Stream.received g.S.Stream.sent g.S.Stream.course g.A.Backend.is_past g.A.Backend.kept
      (IsFedAmong l.fn.moment (map connection l.fn.clients)) [] l.fn.answers l.answers l.fn.clients l.clients;
  same : map connection l.clients ≡ map connection l.fn.clients;
  heard : AreHeard l.fn.moment l.fn.clients l.clients;
  all : l.signs.is_all ≡ l.fn.signs.is_all;
}
