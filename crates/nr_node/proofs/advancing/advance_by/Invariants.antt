use Rattle.std.proofs.Common.{◌<◌}
use Rattle.nr_log_end.specs.Standings.{StandsInLog}
use Rattle.nr_node.proofs.Advances.{WentOn}
use Rattle.nr_node.proofs.advancing.advance_by.Given as goal

-- as many entries were taken in as turns were made, and the log stands behind them
abbrev pub invariant-loop : goal.invariant-loop
invariant-loop g l =
    WentOn l.counter l.fn.end l.end l.fn.replica l.replica l.fn.next l.next l.fn.accounts l.accounts × (0 < l.counter → StandsInLog l.end.standing)
