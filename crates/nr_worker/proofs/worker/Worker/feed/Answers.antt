use Rattle.std.proofs.Common.{◌++◌}
use Rattle.nr_entry.specs.Jobs.{connection_of}
use Rattle.nr_worker.proofs.Nourished.{fed_by, on_feeds, on_stops}
use Rattle.nr_worker.proofs.worker.Worker.feed.Goals as goal

pub returns-clause-goes : goal.returns-clause-goes
returns-clause-goes g c =
    let r = c.self.inside.returned.items in
    let a = c.self.inside.due.jobs in
    let b = c.feed.new.self.jobs in
    fed_by c.args.self.now _ c.feed.new.seats (r ++ b) c.feed.new.self.late (connection_of c.args.conn) c.args.moment c.args.bytes.now c.feed.result
    c.self.view_is c.requires.taken
    (on_feeds c.feed.result c.args.conn.serial c.args.moment c.args.bytes.now c.self.inside.seats c.feed.new.seats r a b c.feed.ensures.fed)
    (on_stops c.feed.result c.args.conn.serial c.args.moment c.args.bytes.now c.self.inside.seats c.feed.new.seats r a b c.feed.ensures.stopped)
