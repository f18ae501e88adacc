use Rattle.std.proofs.Common.{◌∙◌, ap, sym}
use Rattle.std.specs.FinMap as finmap
use Rattle.nr_entry.specs.Jobs.{connection_of}
use Rattle.nr_pubsub.proofs.Held.{removed_is, found_is}
use Rattle.nr_pubsub.proofs.holders.Holders.take.Goals as goal

pub returns-clause-taken : goal.returns-clause-taken
returns-clause-taken c =
    sym (found_is c.self.inside.by_conn.entries c.args.self.now (connection_of c.args.conn) c.remove.result c.self.view_is c.remove.ensures.value)

pub returns-clause-removed : goal.returns-clause-removed
returns-clause-removed c =
    removed_is c.self.inside.by_conn.entries c.remove.new.self.entries (connection_of c.args.conn) c.remove.ensures.updates.0
    ∙ ap (λ m. finmap.remove m (connection_of c.args.conn)) c.self.view_is
