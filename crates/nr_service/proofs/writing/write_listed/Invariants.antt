-- All were served so far, and they are of the same connections; where all are looked at, what is kept for those in front is sent.
use Rattle.std.proofs.Common.{◌≡◌, true, false, [], map}
use Rattle.std.specs.List.{AllWithin, IsDistinct}
use Rattle.nr_model.specs.Items.{same_connection}
use Rattle.nr_service.specs.Readings.{IsNeverFed}
use Rattle.nr_service.specs.Serving.{connection}
use Rattle.nr_service.specs.Silence.{AreHeard}
use Rattle.nr_service.specs.Steps.{Serves, settled_past}
use Rattle.nr_service.specs.Sweeps.{IsSentOrBroken}
use Rattle.nr_service.proofs.writing.write_listed.Given as goal

abbrev pub invariant-loop-visit : goal.invariant-loop-visit
invariant-loop-visit g l = record {
  served : Serves g.S.Stream.received g.S.Stream.sent g.S.Stream.course
      (settled_past g.A.Backend.is_past g.A.Backend.is_settled) g.A.Backend.kept
      IsNeverFed [] l.fn.answers l.answers l.fn.clients l.clients;
  same : map connection l.clients ≡ map connection l.fn.clients;
  heard : AreHeard l.fn.moment l.fn.clients l.clients;
  all : l.signs.is_all ≡ l.fn.signs.is_all;
  sent : l.fn.signs.is_all ≡ true → l.signs.is_busy ≡ false → IsDistinct same_connection (map connection l.fn.clients)
      → AllWithin (IsSentOrBroken (g.A.Backend.kept l.answers)) l.clients 0 l.visit;
}
