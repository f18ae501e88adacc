use Rattle.nr_worker_service.proofs.Working.{heard_collected, mark_collected, works_collected}
use Rattle.nr_worker_service.proofs.turns.collect.Goals as goal

pub collect-requires : goal.collect-requires
collect-requires g c κs within = within

pub returns-clause-works : goal.returns-clause-works
returns-clause-works g c = works_collected c.collect.result c.args.desk.now _ c.collect.ensures.settled c.collect.ensures.same c.collect.ensures.goes

pub returns-clause-mark : goal.returns-clause-mark
returns-clause-mark g c = mark_collected c.collect.result c.args.desk.now _ c.collect.ensures.settled c.collect.ensures.same

pub returns-clause-heard : goal.returns-clause-heard
returns-clause-heard g c = heard_collected c.collect.result c.args.desk.now _ c.collect.ensures.settled c.collect.ensures.same
