use Rattle.nr_worker_service.proofs.Working.{mark_heard, worker_heard, works_heard}
use Rattle.nr_worker_service.proofs.turns.hear_of_node.Goals as goal

pub returns-clause-works : goal.returns-clause-works
returns-clause-works g c = works_heard c.args.is_down c.args.since c.args.desk.now _ c.hear_of_node.ensures.heard c.hear_of_node.ensures.goes

pub returns-clause-mark : goal.returns-clause-mark
returns-clause-mark g c = mark_heard c.args.is_down c.args.since c.args.desk.now _ c.hear_of_node.ensures.heard

pub returns-clause-worker : goal.returns-clause-worker
returns-clause-worker g c = worker_heard c.args.is_down c.args.since c.args.desk.now _ c.hear_of_node.ensures.heard
