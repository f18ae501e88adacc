-- Nothing was done, or what came was taken in.
use Rattle.std.proofs.Common.{refl}
use Rattle.nr_service.specs.Serving.{connection}
use Rattle.nr_service.proofs.Left.{leaves_one_then, on_err}
use Rattle.nr_service.proofs.Feeding.{still_one, one_then}
use Rattle.nr_service.proofs.Heard.{heard_read, heard_unread}
use Rattle.nr_service.proofs.reading.read_one.Goals as goal

pub returns-then-client-clause-ok : goal.returns-then-client-clause-ok
returns-then-client-clause-ok g c = still_one _ _ _ _ _ _ _ _ _ refl refl refl (λ ended. ended)

pub returns-then-not-is_open-clause-ok : goal.returns-then-not-is_open-clause-ok
returns-then-not-is_open-clause-ok g c = still_one _ _ _ _ _ _ _ _ _ refl refl refl (λ ended. ended)

pub returns-then-pending-limit-clause-ok : goal.returns-then-pending-limit-clause-ok
returns-then-pending-limit-clause-ok g c = still_one _ _ _ _ _ _ _ _ _ refl refl refl (λ ended. ended)

pub returns-clause-ok : goal.returns-clause-ok
returns-clause-ok g c = one_then _ _ _ _ _ _ _ _ _ _ _ _ (still_one _ _ _ _ _ _ _ _ _ refl refl refl (λ ended. ended)) c.in_ok-take_in.ensures.ok

pub returns-in_err-take_in-clause-err : goal.returns-in_err-take_in-clause-err
returns-in_err-take_in-clause-err g c =
    on_err c.from_residual.result _
    (leaves_one_then _ _ _ _ _ _ _ _ _ _ _ _ _ (still_one _ _ _ _ _ _ _ _ _ refl refl refl (λ ended. ended)) c.in_err-take_in.ensures.err)

pub returns-then-client-clause-heard : goal.returns-then-client-clause-heard
returns-then-client-clause-heard g c = heard_unread (g.A.Backend.listens c.args.answers.now (connection c.args.client.now)) _ _ _ _ _ c.heard_by-client.ensures

pub returns-then-not-is_open-clause-heard : goal.returns-then-not-is_open-clause-heard
returns-then-not-is_open-clause-heard g c = heard_unread (g.A.Backend.listens c.args.answers.now (connection c.args.client.now)) _ _ _ _ _ c.heard_by-client.ensures

pub returns-then-pending-limit-clause-heard : goal.returns-then-pending-limit-clause-heard
returns-then-pending-limit-clause-heard g c = heard_unread (g.A.Backend.listens c.args.answers.now (connection c.args.client.now)) _ _ _ _ _ c.heard_by-client.ensures

pub returns-clause-heard : goal.returns-clause-heard
returns-clause-heard g c = heard_read (g.A.Backend.listens c.args.answers.now (connection c.args.client.now)) _ _ _ _ _ _ _ c.heard_by-client.ensures c.take_in.ensures.heard

pub returns-in_err-take_in-clause-heard : goal.returns-in_err-take_in-clause-heard
returns-in_err-take_in-clause-heard g c = heard_read (g.A.Backend.listens c.args.answers.now (connection c.args.client.now)) _ _ _ _ _ _ _ c.heard_by-client.ensures c.take_in.ensures.heard
