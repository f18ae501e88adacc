-- None came, and all are as they were.
use Rattle.std.proofs.Common.{arith}
use Rattle.nr_service.proofs.Arrived.{arrives_none, arrives_then, arrives_within, until_now, until_then}
use Rattle.nr_service.proofs.Heard.{opens_none}
use Rattle.nr_service.proofs.Left.{on_err}
use Rattle.nr_service.proofs.Served.{accepts_none}
use Rattle.nr_service.proofs.accepting.accept_one.Goals as goal

pub returns-in_default-clause-ok : goal.returns-in_default-clause-ok
returns-in_default-clause-ok g c = accepts_none _ _ _ _ _ _ _

pub returns-in_err-stream-clause-err : goal.returns-in_err-stream-clause-err
returns-in_err-stream-clause-err g c = on_err c.from_residual.result _ (until_now _ _ _ _ _ _ _ _ _ _ _ _ _ _ _ c.accept.ensures.parted c.leaves.ensures)

pub returns-in_err-take_on-clause-err : goal.returns-in_err-take_on-clause-err
returns-in_err-take_on-clause-err g c =
    on_err c.from_residual-in_err-take_on.result _
    (until_then _ _ _ _ _ _ _ _ _ 0 1 _ _ _ _ _ _ _ _ _ _ _ (omega arith) (accepts_none _ _ _ _ _ _ _) (arrives_none _ _ _ _ _ _ _ _ c.accept.ensures.parted) c.in_err-take_on.ensures.err)

pub returns-in_default-clause-arrives : goal.returns-in_default-clause-arrives
returns-in_default-clause-arrives g c = arrives_within _ _ _ 0 1 _ _ _ _ _ _ _ _ (omega arith) (arrives_none _ _ _ _ _ _ _ _ c.accept.ensures.parted)

pub returns-clause-arrives : goal.returns-clause-arrives
returns-clause-arrives g c =
    arrives_then _ _ _ 0 1 1 _ _ _ _ _ _ _ _ _ _ _ _ (omega arith) (arrives_none _ _ _ _ _ _ _ _ c.accept.ensures.parted) c.in_ok-take_on.ensures.arrives

pub returns-in_default-clause-heard : goal.returns-in_default-clause-heard
returns-in_default-clause-heard g c = opens_none _ _
