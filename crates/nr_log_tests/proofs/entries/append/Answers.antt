use Rattle.nr_log_tests.proofs.Filled.{shares_for, fresh_after}
use Rattle.nr_log_tests.proofs.entries.append.Goals as goal

pub reserve-requires-clause-shares : goal.reserve-requires-clause-shares
reserve-requires-clause-shares g c = shares_for _ _ _ c.args.end.now.standing c.args.shares c.requires.ready c.requires.shares

pub fill_all-requires : goal.fill_all-requires
fill_all-requires g c = fresh_after _ _ _ _ c.args.end.now.standing _ c.args.shares c.requires.ready c.requires.shares c.in-Taken.ensures.taken.0
