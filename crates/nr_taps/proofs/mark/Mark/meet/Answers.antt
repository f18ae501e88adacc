use Rattle.std.proofs.Common.{ap}
use Rattle.nr_taps.specs.Marks.{MarkState}
use Rattle.nr_taps.proofs.Marks.{tokens_met}
use Rattle.nr_taps.proofs.mark.Mark.meet.Goals as goal

pub returns-clause-met : goal.returns-clause-met
returns-clause-met g c =
    tokens_met c.args.self.now c.args.other.now c.self.inside.token c.other.inside.token c.in-Some.token c.in-Some-token.another
    (ap (λ (m : MarkState). m.standing) c.self.view_is) (ap (λ (m : MarkState). m.standing) c.other.view_is) c.in-Some.is c.in-Some-token.is c.order.ensures.of_one_log
