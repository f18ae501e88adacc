use Rattle.std.proofs.Common.{◌∙◌}
use Rattle.nr_pubsub.proofs.Sets.{name_inserted_is}
use Rattle.nr_pubsub.proofs.holding.add.Goals as goal

pub returns-clause-ok : goal.returns-clause-ok
returns-clause-ok c = c.in_ok-insert.ensures.keys ∙ name_inserted_is c.args.names.now.keys c.args.name
