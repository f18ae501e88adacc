use Rattle.std.proofs.Common.{lit<}
use Rattle.nr_worker_service.proofs.Working.{behind_turned, works_turned}
use Rattle.nr_worker_service.proofs.turns.turn.Goals as goal

pub turn-requires : goal.turn-requires
turn-requires g c = lit< tt

pub returns-clause-works : goal.returns-clause-works
returns-clause-works g c = works_turned c.turn.result c.args.desk.now _ c.turn.ensures.turned c.turn.ensures.none

pub returns-clause-turned : goal.returns-clause-turned
returns-clause-turned g c = behind_turned g.B.LogName.places _ c.turn.result c.args.desk.now _ c.turn.ensures.took
