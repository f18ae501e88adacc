use Rattle.std.proofs.Common.{◌≡◌}
use Rattle.nr_worker.specs.Placed.{are_written}
use Rattle.nr_worker.proofs.open_connections.OpenConnections.are_written.Given as goal

-- nothing waits at those that are left just where nothing does at all of them
abbrev pub invariant-loop-seat : goal.invariant-loop-seat
invariant-loop-seat l = are_written l.seat-iterator ≡ are_written l.initial.seat-iterator
