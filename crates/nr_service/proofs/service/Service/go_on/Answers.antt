-- All are served, and no connection can be answered any more.
use Rattle.nr_service.proofs.Broken.{ran_out_still}
use Rattle.nr_service.proofs.service.Service.go_on.Goals as goal

pub returns-then-is_empty-clause-err : goal.returns-then-is_empty-clause-err
returns-then-is_empty-clause-err g c = λ first setup s. ran_out_still _ _ _ _ _ _ _ _ _ first setup c.leaves.ensures (c.in_ok-turn.ensures.ok first setup s)
