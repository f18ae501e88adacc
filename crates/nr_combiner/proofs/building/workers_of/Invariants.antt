use Rattle.std.proofs.Common.{◌≡◌, ℕ, ◌+◌, ◌<◌, ◌++◌, length, slice_get, Some}
use Rattle.std.specs.Arc.{arc_value}
use Rattle.nr_slots.specs.Seats.{new_worker}
use Rattle.nr_combiner.specs.Workers.{fresh_workers}
use Rattle.nr_combiner.proofs.building.workers_of.Given as goal

abbrev pub invariant-loop-seat : goal.invariant-loop-seat
invariant-loop-seat g l = (length l.workers.items + length l.seat-iterator.rest.items ≡ length l.fn.seats.items)
    × ((k : ℕ) → k < length l.seat-iterator.rest.items → slice_get l.seat-iterator.rest.items k ≡ Some (new_worker (arc_value l.fn.shared).slots.id (length l.workers.items + k)))
    × (l.workers.items ++ fresh_workers (arc_value l.fn.shared) (length l.workers.items) (length l.seat-iterator.rest.items) ≡ fresh_workers (arc_value l.fn.shared) 0 (length l.fn.seats.items))
