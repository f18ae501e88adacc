-- All clients were served so far, at the moments of the clock.
use Rattle.nr_service.specs.Readings.{AreFedByClock}
use Rattle.nr_service.specs.Serving.{AreServed}
use Rattle.nr_service.specs.Stories.{Story, fed_in, closings_in}
use Rattle.nr_server.proofs.Going.{Goes}
use Rattle.nr_server.proofs.run.exchange_all.Given as goal

abbrev pub invariant-loop : goal.invariant-loop
invariant-loop g l =
    (first : _) (story : Story) → AreServed g.S.Stream.received g.S.Stream.sent g.S.Stream.course (g.A.Backend.is_past l.fn.service.answers)
    (g.A.Backend.kept l.fn.service.answers) story l.fn.service.clients.items
    → AreFedByClock g.M.Moments.gives first l.fn.service.clock l.fn.service.moment (fed_in story.occurrences) (closings_in story.occurrences)
    → Goes g.S.Stream.received g.S.Stream.sent g.S.Stream.course g.A.Backend.is_past g.A.Backend.kept
    (AreFedByClock g.M.Moments.gives first l.service.clock l.service.moment) story l.service.answers l.service.clients.items
