use Rattle.std.proofs.Common.{◌+◌}
use Rattle.nr_log_tests.proofs.Filled.{IsFilledBelow}
use Rattle.nr_log_tests.proofs.entries.fill_all.Given as goal

abbrev pub invariant-loop-other : goal.invariant-loop-other
invariant-loop-other g l = IsFilledBelow l.node l.nodes (l.number + 1) l.at l.other (g.L.LogEnd.standing l.end)
