-- One part behind another.
use Rattle.nr_service.proofs.Heard.{all_as_before, all_then}
use Rattle.nr_service.proofs.Left.{leaves_all, leaves_then, on_err}
use Rattle.nr_service.proofs.Served.{serves_then, serves_weaker}
use Rattle.nr_service.proofs.Working.{exchanged}
use Rattle.nr_service.proofs.service.exchange_each.Goals as goal

pub returns-in_err-work_left-clause-err : goal.returns-in_err-work_left-clause-err
returns-in_err-work_left-clause-err g c = on_err c.from_residual.result _ (leaves_all _ _ _ _ _ _ _ _ _ _ c.in_err-work_left.ensures.left)

pub returns-in_err-read_listed-clause-err : goal.returns-in_err-read_listed-clause-err
returns-in_err-read_listed-clause-err g c =
    on_err c.from_residual-in_err-read_listed.result _
    (leaves_then _ _ _ _ _ _ _ _ _ _ _ _ _ (serves_weaker _ _ _ _ _ _ _ _ _ _ _ (λ feeding never. absurd never) c.in_ok-work_left.ensures.serves)
    c.in_err-read_listed.ensures.err)

pub returns-in_err-work-clause-err : goal.returns-in_err-work-clause-err
returns-in_err-work-clause-err g c =
    on_err c.from_residual-in_err-work.result _
    (leaves_then _ _ _ _ _ _ _ _ _ _ _ _ _
    (serves_then _ _ _ _ _ _ _ _ _ _ _ _ (serves_weaker _ _ _ _ _ _ _ _ _ _ _ (λ feeding never. absurd never) c.in_ok-work_left.ensures.serves)
    (serves_weaker _ _ _ _ _ _ _ _ _ _ _ (λ feeding fed. fed.1) c.in_ok-read_listed.ensures.ok))
    (leaves_all _ _ _ _ _ _ _ _ _ _ c.in_err-work.ensures.left))

pub returns-clause-ok : goal.returns-clause-ok
returns-clause-ok g c =
    exchanged _ _ _ _ _ _ _ _ _ _ _ _ _ _ _ _ c.in_ok-work_left.ensures.serves c.in_ok-read_listed.ensures.ok c.in_ok-work.ensures.worked c.write_listed.ensures.served

pub returns-in_err-work_left-clause-heard : goal.returns-in_err-work_left-clause-heard
returns-in_err-work_left-clause-heard g c = all_as_before _ _

pub returns-clause-heard : goal.returns-clause-heard
returns-clause-heard g c = all_then _ _ _ _ c.in_ok-read_listed.ensures.heard c.write_listed.ensures.heard
