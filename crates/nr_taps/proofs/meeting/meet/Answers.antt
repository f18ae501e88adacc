use Rattle.std.proofs.Common.{ap}
use Rattle.nr_taps.specs.Taps.{TapState}
use Rattle.nr_taps.proofs.Meetings.{tokens_met}
use Rattle.nr_taps.proofs.meeting.meet.Goals as goal

pub returns-clause-met : goal.returns-clause-met
returns-clause-met g c =
    tokens_met c.args.one.now c.args.other.now c.one.inside.token c.other.inside.token c.in-Some.token c.in-Some-token.another
    (ap (λ (t : TapState). t.standing) c.one.view_is) (ap (λ (t : TapState). t.standing) c.other.view_is) c.in-Some.is c.in-Some-token.is c.order.ensures.of_one_log
