use Rattle.nr_model.specs.Items.{connection_cmp}
use Rattle.nr_entry.specs.Jobs.{connection_of}
use Rattle.nr_pubsub.proofs.Sets.{rising_seen}
use Rattle.nr_pubsub.proofs.Connections.{left_is}
use Rattle.nr_pubsub.proofs.index.leave.Goals as goal

pub returns-clause-left : goal.returns-clause-left
returns-clause-left c =
    left_is c.args.conn c.args.set.now.keys c.remove.new.self.keys c.requires
    (rising_seen connection_cmp connection_of c.remove.new.self.keys c.remove.ensures.ordered) c.remove.ensures.updates.0

pub returns-clause-ordered : goal.returns-clause-ordered
returns-clause-ordered c = rising_seen connection_cmp connection_of c.remove.new.self.keys c.remove.ensures.ordered
