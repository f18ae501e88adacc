use Rattle.nr_test_parts.proofs.Taken.{all_heard, turned_at}
use Rattle.nr_test_parts.proofs.station.Station.turn.Goals as goal

pub returns-clause-handed : goal.returns-clause-handed
returns-clause-handed g c = all_heard _ _ _ _ _ _ c.turn.result c.in-Some.turned c.in-Some.token c.in-Some.is c.new-pieces.ensures.items c.turn.ensures.heard

pub returns-clause-turned : goal.returns-clause-turned
returns-clause-turned g c = turned_at _ _ _ _ _ _ c.turn.result c.in-Some.turned c.in-Some.token c.in-Some.is c.new-pieces.ensures.items c.turn.ensures.turned
