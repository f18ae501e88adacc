use Rattle.std.specs.Prelude.{◌≡◌, ◌+◌, ◌++◌, length, map}
use Rattle.std.specs.List.{AllByRecursion}
use Rattle.std.specs.Vec.{vec_len}
use Rattle.nr_crew.specs.Nodes.{IsFresh}
use Rattle.nr_crew.specs.Places.{place_of}
use Rattle.nr_crew.proofs.nodes.add_lanes.Given as goal

abbrev pub invariant-loop-worker : goal.invariant-loop-worker
invariant-loop-worker g l =
    (goal.iterator-loop-worker g).can_next l.worker-iterator
    × (goal.iterator-loop-worker g).is_finite l.worker-iterator
    × AllByRecursion IsFresh l.worker-iterator.rest.items
    × (vec_len l.lanes + length l.worker-iterator.rest.items ≡ vec_len l.fn.lanes + vec_len l.fn.workers)
    × (map (λ lane. place_of lane.worker) l.lanes.items ++ map place_of l.worker-iterator.rest.items
    ≡ map (λ lane. place_of lane.worker) l.fn.lanes.items ++ map place_of l.fn.workers.items)
