use Rattle.nr_model.specs.Commands as table
use Rattle.nr_resp.proofs.Names.{named_here, named_there}
use Rattle.nr_resp.proofs.table.operation.Goals as goal

pub returns-in-Some : goal.returns-in-Some
returns-in-Some c = named_here table.plain_served table.collections_served c.args.word.now _ c.in-Some.ensures

pub returns : goal.returns
returns c = named_there table.plain_served table.collections_served c.args.word.now _ c.in_default.ensures c.collection.ensures
