use Rattle.nr_worker_service.proofs.Working.{works_stopped}
use Rattle.nr_worker_service.proofs.turns.stop.Goals as goal

pub stop-requires : goal.stop-requires
stop-requires g c κs within = within

pub returns : goal.returns
returns g c = works_stopped c.args.conn.serial c.args.desk.now _ c.stop.ensures.stopped c.stop.ensures.goes
