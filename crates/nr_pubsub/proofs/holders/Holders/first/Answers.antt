use Rattle.std.proofs.Common.{sym}
use Rattle.nr_entry.specs.Jobs.{connection_of}
use Rattle.nr_pubsub.proofs.Held.{none_rises}
use Rattle.nr_pubsub.proofs.holders.Holders.first.Goals as goal

pub returns-in-None-clause-ordered : goal.returns-in-None-clause-ordered
returns-in-None-clause-ordered c = none_rises c.args.self.now (connection_of c.args.conn) c.args.kind (sym c.in-None.ensures)
