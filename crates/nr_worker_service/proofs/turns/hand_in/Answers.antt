use Rattle.nr_worker_service.proofs.Working.{works_posted}
use Rattle.nr_worker_service.proofs.turns.hand_in.Goals as goal

pub post-is_posted-requires : goal.post-is_posted-requires
post-is_posted-requires g c κs within = within

pub returns : goal.returns
returns g c =
    works_posted c.post-is_posted.result c.args.desk.now _ c.post-is_posted.ensures.posted c.post-is_posted.ensures.none c.post-is_posted.ensures.same
    c.post-is_posted.ensures.goes
