use Rattle.nr_worker_service.proofs.Working.{works_ended}
use Rattle.nr_worker_service.proofs.turns.put_end.Goals as goal

pub returns : goal.returns
returns g c =
    works_ended c.end_next-put.result c.args.desk.now _ c.end_next-put.ensures.ended c.end_next-put.ensures.none c.end_next-put.ensures.same
    c.end_next-put.ensures.goes
