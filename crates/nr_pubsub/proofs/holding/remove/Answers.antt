use Rattle.nr_pubsub.proofs.Sets.{name_removed_is}
use Rattle.nr_pubsub.proofs.holding.remove.Goals as goal

pub returns-clause-removed : goal.returns-clause-removed
returns-clause-removed c = name_removed_is c.args.name.now c.args.names.now.keys c.remove.new.self.keys c.requires c.remove.ensures.ordered
    c.remove.ensures.updates.0
