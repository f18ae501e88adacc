use Rattle.std.proofs.Common.{Some}
use Rattle.nr_watch.proofs.Found.{kept_changed}
use Rattle.nr_watch.proofs.watches.put.Goals as goal

pub returns : goal.returns
returns c =
    let changes = c.in_ok-insert.ensures.updates in
    record { at = kept_changed c.args.by_conn.now.entries c.insert.new.self.entries c.args.conn (Some c.args.watched) changes.1 changes.3 }
