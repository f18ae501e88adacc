use Rattle.std.proofs.Common.{None}
use Rattle.nr_watch.proofs.Found.{kept_changed}
use Rattle.nr_watch.proofs.watches.take.Goals as goal

pub returns-clause-taken : goal.returns-clause-taken
returns-clause-taken c =
    let changes = c.remove.ensures.updates in
    record { at = kept_changed c.args.by_conn.now.entries c.remove.new.self.entries c.args.conn None changes.1 changes.3 }
