use Rattle.std.specs.Prelude.{◌≡◌, ◌+◌, ◌*◌, ◌++◌, length, map, flat_map}
use Rattle.std.specs.List.{AllByRecursion}
use Rattle.std.specs.Vec.{vec_len}
use Rattle.nr_crew.specs.Nodes.{AreFresh}
use Rattle.nr_crew.specs.Places.{place_of}
use Rattle.nr_crew.proofs.nodes.lanes_of.Given as goal

abbrev pub invariant-loop-workers : goal.invariant-loop-workers
invariant-loop-workers g l =
    (goal.iterator-loop-workers g).can_next l.workers-iterator
    × (goal.iterator-loop-workers g).is_finite l.workers-iterator
    × AllByRecursion (λ workers. AreFresh l.fn.setup.workers workers.items) l.workers-iterator.rest.items
    × (vec_len l.lanes + length l.workers-iterator.rest.items * l.fn.setup.workers ≡ vec_len l.fn.built * l.fn.setup.workers)
    × (map (λ lane. place_of lane.worker) l.lanes.items ++ flat_map (λ workers. map place_of workers.items) l.workers-iterator.rest.items
    ≡ flat_map (λ workers. map place_of workers.items) l.fn.built.items)
