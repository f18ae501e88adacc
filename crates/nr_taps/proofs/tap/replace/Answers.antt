use Rattle.nr_taps.proofs.Tapped.{met_with}
use Rattle.nr_taps.proofs.tap.replace.Goals as goal

pub returns-in-Some-clause-met : goal.returns-in-Some-clause-met
returns-in-Some-clause-met g c = met_with c.args.held.now _ c.args.token.standing c.in-Some.is c.order.ensures.of_one_log
