use Rattle.nr_worker_service.proofs.Working.{works_same}
use Rattle.nr_worker_service.proofs.turns.hear_in_time.Goals as goal

pub returns-else-is_time : goal.returns-else-is_time
returns-else-is_time g c = works_same c.args.desk.now
