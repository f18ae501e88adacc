use Rattle.nr_worker_service.proofs.Working.{works_then}
use Rattle.nr_worker_service.proofs.turns.work_on.Goals as goal

pub returns-clause-works : goal.returns-clause-works
returns-clause-works g c =
    works_then c.args.desk.now c.hear_in_time.new.desk c.take_turns-has_rest.new.desk c.hear_in_time.ensures c.take_turns-has_rest.ensures.works
