use Rattle.std.proofs.Common.{lit<}
use Rattle.nr_worker_service.proofs.Working.{behind_pieces, works_turned}
use Rattle.nr_worker_service.proofs.turns.collect_pieces.Goals as goal

pub collect_pieces-requires : goal.collect_pieces-requires
collect_pieces-requires g c = lit< tt

pub returns-clause-works : goal.returns-clause-works
returns-clause-works g c = works_turned c.collect_pieces.result c.args.desk.now _ c.collect_pieces.ensures.handed c.collect_pieces.ensures.none

pub returns-clause-handed : goal.returns-clause-handed
returns-clause-handed g c = behind_pieces c.collect_pieces.result c.args.desk.now _ c.collect_pieces.ensures.took
