use Rattle.std.proofs.Common.{◌≡◌, ℕ, ◌+◌, ◌<◌, length, slice_get, Some}
use Rattle.nr_oplog.specs.Rule.{opening_view}
use Rattle.nr_slots.specs.Seats.{SlotsView}
use Rattle.nr_combiner.specs.Workers.{IsNode}
use Rattle.nr_combiner.proofs.Seated.{IsSlotsOf}
use Rattle.nr_combiner.proofs.building.build.Given as goal

abbrev pub invariant-loop-seat : goal.invariant-loop-seat
invariant-loop-seat g l = (length l.built.items + length l.seat-iterator.rest.items ≡ g.B.LogName.nodes) × (l.nodes ≡ g.B.LogName.nodes)
    × ((k : ℕ) → k < length l.seat-iterator.rest.items → slice_get l.seat-iterator.rest.items k ≡ Some (opening_view g.B.LogName.nodes g.B.LogName.places (length l.built.items + k) (length l.built.items + k + 1)))
    × ((node : ℕ) (workers : _) → slice_get l.built.items node ≡ Some workers → IsNode l.setup.workers l.setup.connections l.setup.queue_limit node workers.items)
    × (length l.slots.rest.items ≡ length l.seat-iterator.rest.items)
    × ((k : ℕ) (one : SlotsView) → slice_get l.slots.rest.items k ≡ Some one → IsSlotsOf g.B.ServerName.slots l.setup.workers (length l.built.items + k) one)
