use Rattle.std.proofs.Common.{◌≡◌, ◌++◌, map}
use Rattle.std.specs.Prelude.{flat_map}
use Rattle.nr_test_parts.proofs.station.in_order.Given as goal

-- the workers of the nodes that were added, and of those that are left
abbrev pub invariant-loop-workers : goal.invariant-loop-workers
invariant-loop-workers g l =
    map (λ station. station.worker) l.all.items ++ flat_map (λ workers. workers.items) l.workers-iterator.rest.items ≡ flat_map (λ workers. workers.items) l.fn.nodes.items
