-- What was kept is sent, where all are looked at.
use Rattle.std.proofs.Common.{arith, sym, ◌∙◌}
use Rattle.nr_service.proofs.Sending.{of_whole}
use Rattle.nr_service.proofs.service.Service.exchange_listed.Goals as goal

pub returns-clause-sent : goal.returns-clause-sent
returns-clause-sent g c = λ all rests apart.
    of_whole (g.A.Backend.kept c.exchange_each.new.answers) _ _ _ (omega (arith, c.exchange_each.auto.clients, c.deref_mut.ensures.len))
    (c.in_ok-exchange_each.ensures.sent (sym c.in_ok-exchange_each.ensures.all ∙ all) rests) apart
