use Rattle.std.proofs.Common.{lit<}
use Rattle.nr_worker_service.proofs.Working.{behind_turned, works_turned}
use Rattle.nr_worker_service.proofs.turns.try_turn.Goals as goal

pub try_turn-requires : goal.try_turn-requires
try_turn-requires g c = lit< tt

pub returns-clause-works : goal.returns-clause-works
returns-clause-works g c = works_turned c.try_turn.result c.args.desk.now _ c.try_turn.ensures.turned c.try_turn.ensures.none

pub returns-clause-turned : goal.returns-clause-turned
returns-clause-turned g c = behind_turned g.B.LogName.places _ c.try_turn.result c.args.desk.now _ c.try_turn.ensures.took
