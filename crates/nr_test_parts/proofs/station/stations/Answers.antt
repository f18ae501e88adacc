use Rattle.std.proofs.Common.{map}
use Rattle.nr_test_parts.proofs.Gathered.{gathered}
use Rattle.nr_test_parts.proofs.station.stations.Goals as goal

pub returns : goal.returns
returns g c =
    gathered c.in_order.result (λ all. map (λ station. station.worker) all.items) (λ workers. workers.items) c.in_ok-build.field-0.items _ _ _ _ c.in_order.ensures
    c.in_ok-build.ensures.nodes c.in_ok-build.ensures.workers
