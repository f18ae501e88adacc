-- What was handed out is kept.
use Rattle.nr_service.proofs.Working.{worked}
use Rattle.nr_service.proofs.service.work_left.Goals as goal

pub returns-in_ok-work-clause-serves : goal.returns-in_ok-work-clause-serves
returns-in_ok-work-clause-serves g c = worked _ _ _ _ g.A.Backend.is_settled _ _ _ _ _ c.in_ok-work.ensures.worked
