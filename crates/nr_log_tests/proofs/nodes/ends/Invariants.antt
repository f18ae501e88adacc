use Rattle.std.proofs.Common.{◌≡◌, ℕ, ◌+◌, ◌<◌, length, slice_get, Some, vec_len}
use Rattle.nr_oplog.specs.Rule.{opening_view}
use Rattle.nr_log_tests.proofs.nodes.ends.Given as goal

abbrev pub invariant-loop-seat : goal.invariant-loop-seat
invariant-loop-seat g l = (length l.seats.items + length l.all.items ≡ g.B.LogName.nodes) × (l.nodes ≡ g.B.LogName.nodes)
    × ((node : ℕ) → node < length l.seats.items → slice_get l.seats.items node ≡ Some (opening_view g.B.LogName.nodes g.B.LogName.places node (node + 1)))

abbrev pub decreases-loop-seat : goal.decreases-loop-seat
decreases-loop-seat g l = vec_len l.seats
