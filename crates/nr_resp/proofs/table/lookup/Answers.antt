use Rattle.nr_model.specs.Commands as table
use Rattle.nr_resp.proofs.Names.{named_here, named_there}
use Rattle.nr_resp.proofs.table.lookup.Goals as goal

pub returns-in-Some : goal.returns-in-Some
returns-in-Some c = named_here table.operations_served table.sessions_served c.args.word.now _ c.in-Some.ensures

pub returns-in-Some-session : goal.returns-in-Some-session
returns-in-Some-session c = named_there table.operations_served table.sessions_served c.args.word.now _ c.in_default.ensures c.in-Some-session.ensures

pub returns : goal.returns
returns c = named_there table.operations_served table.sessions_served c.args.word.now _ c.in_default.ensures c.in_default-session.ensures
