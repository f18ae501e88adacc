use Rattle.std.specs.Prelude.{◌≡◌, ◌+◌, ◌++◌, ◌≤◌, length, map}
use Rattle.std.specs.Vec.{vec_capacity, vec_len}
use Rattle.std.specs.List.{AllByRecursion}
use Rattle.nr_crew.specs.Left.{AreServedWithin}
use Rattle.nr_crew.specs.Places.{places_left}
use Rattle.nr_crew.specs.Together.{AreLeft}
use Rattle.nr_crew.proofs.running.join_all.Given as goal

abbrev pub invariant-loop-handle : goal.invariant-loop-handle
invariant-loop-handle g l =
    (vec_len l.marks + length l.handle-iterator.rest.items ≤ vec_capacity l.marks)
    × (vec_len l.lefts + length l.handle-iterator.rest.items ≤ vec_capacity l.lefts)
    × AreLeft g.S.Stream.received g.S.Stream.sent g.M.Moments.gives g.D.Poller.parted l.marks.items l.lefts.items
    × AreServedWithin l.fn.limits l.lefts.items
    × AllByRecursion (λ handle. handle.promise.limits ≡ l.fn.limits) l.handle-iterator.rest.items
    × (vec_len l.lefts + length l.handle-iterator.rest.items ≡ vec_len l.fn.handles)
    × (places_left l.lefts.items ++ map (λ handle. (handle.promise.node, handle.promise.worker)) l.handle-iterator.rest.items
    ≡ map (λ handle. (handle.promise.node, handle.promise.worker)) l.fn.handles.items)
