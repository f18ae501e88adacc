use Rattle.std.proofs.Common.{◌≡◌, ℕ, ◌<◌, [], length, slice_get, Some}
use Rattle.nr_slots.specs.Rule.{opening_view}
use Rattle.nr_slots.specs.Seats.{new_worker}
use Rattle.nr_slots.proofs.opening.seats.Given as goal

abbrev pub invariant-loop-worker : goal.invariant-loop-worker
invariant-loop-worker l = (l.seat.table_id ≡ l.words.table_id) × (l.seat.me ≡ (opening_view l.workers l.worker, [])) × (length l.seats.items ≡ l.worker)
    × ((k : ℕ) → k < l.worker → slice_get l.seats.items k ≡ Some (new_worker l.words.table_id k))
