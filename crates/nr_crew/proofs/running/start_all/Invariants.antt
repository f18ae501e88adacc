use Rattle.std.specs.Prelude.{◌≡◌, ◌+◌, ◌++◌, ◌≤◌, length, map}
use Rattle.std.specs.List.{AllByRecursion}
use Rattle.std.specs.Vec.{vec_capacity, vec_len}
use Rattle.nr_crew.specs.Places.{place_of}
use Rattle.nr_crew.proofs.running.start_all.Given as goal

abbrev pub invariant-loop-lane : goal.invariant-loop-lane
invariant-loop-lane g l =
    (goal.iterator-loop-lane g).can_next l.lane-iterator
    × (goal.iterator-loop-lane g).is_finite l.lane-iterator
    × (vec_len l.handles + length l.lane-iterator.rest.items ≡ vec_len l.fn.lanes)
    × AllByRecursion (λ handle. handle.promise.limits ≡ l.fn.shared.limits) l.handles.items
    × (vec_len l.fn.lanes ≤ vec_capacity l.handles)
    × (map (λ handle. (handle.promise.node, handle.promise.worker)) l.handles.items ++ map (λ lane. place_of lane.worker) l.lane-iterator.rest.items
    ≡ map (λ lane. place_of lane.worker) l.fn.lanes.items)
