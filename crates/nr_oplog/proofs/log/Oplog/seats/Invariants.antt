use Rattle.std.proofs.Common.{◌≡◌, ℕ, ◌+◌, ◌<◌, [], length, slice_get, Some}
use Rattle.nr_oplog.specs.Rule.{opening_view}
use Rattle.nr_oplog.proofs.log.Oplog.seats.Given as goal

abbrev pub invariant-loop-node : goal.invariant-loop-node
invariant-loop-node g l = (l.seat.table_id ≡ g.B.LogName.log) × (l.seat.me ≡ (opening_view g.B.LogName.nodes g.B.LogName.places l.node g.B.LogName.nodes, [])) × (length l.seats.items ≡ l.node)
    × ((k : ℕ) → k < l.node → slice_get l.seats.items k ≡ Some (opening_view g.B.LogName.nodes g.B.LogName.places k (k + 1)))
