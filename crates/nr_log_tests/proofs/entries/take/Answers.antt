use Rattle.nr_log_tests.proofs.Filled.{passed_ready}
use Rattle.nr_log_tests.proofs.entries.take.Goals as goal

pub returns : goal.returns
returns g c = passed_ready _ _ _ (g.L.LogEnd.standing c.args.end.now) _ _ c.in_ok-entry.entry.value c.requires c.in_ok-entry.ensures.some c.in_ok-entry.ensures.in_log c.pass.ensures.passed
