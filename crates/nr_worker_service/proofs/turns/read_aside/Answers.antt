use Rattle.nr_worker_service.proofs.Working.{behind_read, works_read}
use Rattle.nr_worker_service.proofs.turns.read_aside.Goals as goal

pub returns-clause-works : goal.returns-clause-works
returns-clause-works g c =
    works_read g.B.LogName.places c.args.count _ c.read_aside.result c.args.desk.now _ c.read_aside.ensures.read c.read_aside.ensures.none c.read_aside.ensures.goes

pub returns-clause-turned : goal.returns-clause-turned
returns-clause-turned g c = behind_read g.B.LogName.places c.args.count c.read_aside.result c.args.desk.now _ c.read_aside.ensures.read
