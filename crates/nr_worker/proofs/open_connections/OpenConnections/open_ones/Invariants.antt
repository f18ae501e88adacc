use Rattle.std.proofs.Common.{◌≡◌, ◌++◌}
use Rattle.nr_worker.specs.Placed.{open_ones}
use Rattle.nr_worker.proofs.open_connections.OpenConnections.open_ones.Given as goal

-- those that were taken, with those that are wanted of the rest, are all
abbrev pub invariant-loop-serial : goal.invariant-loop-serial
invariant-loop-serial l = l.conns.items ++ open_ones l.node l.serial-iterator ≡ open_ones l.node l.initial.serial-iterator
