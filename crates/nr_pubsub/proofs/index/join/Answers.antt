use Rattle.std.proofs.Common.{◌∙◌, ap}
use Rattle.nr_model.specs.Items.{connection_cmp}
use Rattle.nr_entry.specs.Jobs.{connection_of}
use Rattle.nr_pubsub.specs.Standings.{connections}
use Rattle.nr_pubsub.proofs.Sets.{inserted_is, rising_seen}
use Rattle.nr_pubsub.proofs.index.join.Goals as goal

pub returns-in_err-insert-clause-ordered : goal.returns-in_err-insert-clause-ordered
returns-in_err-insert-clause-ordered c = rising_seen connection_cmp connection_of c.insert.new.self.keys c.in_err-insert.ensures.ordered

pub returns-clause-ok : goal.returns-clause-ok
returns-clause-ok c = ap connections c.in_ok-insert.ensures.keys ∙ inserted_is connection_cmp connection_of c.args.set.now.keys c.args.conn

pub returns-clause-ordered : goal.returns-clause-ordered
returns-clause-ordered c = rising_seen connection_cmp connection_of c.insert.new.self.keys c.in_ok-insert.ensures.ordered
