-- There are fewer turns until all are looked at, or they are counted from the first.
use Rattle.nr_service.proofs.Sending.{soon_in_any_case}
use Rattle.nr_service.proofs.service.Service.exchange.Goals as goal

pub returns-clause-until : goal.returns-clause-until
returns-clause-until g c = soon_in_any_case _ _ _ c.in_ok-exchange_listed.ensures.looks

pub returns-in_err-exchange_listed-clause-until : goal.returns-in_err-exchange_listed-clause-until
returns-in_err-exchange_listed-clause-until g c = soon_in_any_case _ _ _ c.in_err-exchange_listed.ensures.looks
