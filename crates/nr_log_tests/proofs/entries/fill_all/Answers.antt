use Rattle.std.proofs.Common.{◌+◌}
use Rattle.nr_log_tests.proofs.Filled.{one_filled}
use Rattle.nr_log_tests.proofs.entries.fill_all.Goals as goal

pub loop-other-preserved : goal.loop-other-preserved
loop-other-preserved g c = one_filled _ _ (c.args.number + 1) _ _ _ _ c.loop-other-test.true c.loop-other.invariant c.fill.ensures.filled
