use Rattle.std.proofs.Common.{◌++◌, ◌∙◌}
use Rattle.nr_entry.specs.Jobs.{connection_of, items_of}
use Rattle.nr_world.specs.Dropped.{posted_at, pending_at}
use Rattle.nr_world.proofs.Dropped.{first_here, first_behind}
use Rattle.nr_world.proofs.dropped_jobs.first_dropped.Goals as goal

pub returns-in-Some : goal.returns-in-Some
returns-in-Some c =
    first_here (connection_of c.args.conn) (items_of c.args.replica.now.waiting) (posted_at c.args.workers.now ++ pending_at c.args.workers.now)
    c.in-Some.number c.in-Some.ensures

pub returns-in-Some-first_posted : goal.returns-in-Some-first_posted
returns-in-Some-first_posted c =
    first_here (connection_of c.args.conn) (posted_at c.args.workers.now) (pending_at c.args.workers.now) c.in-Some-first_posted.number
    c.in-Some-first_posted.ensures
    ∙ first_behind (connection_of c.args.conn) (items_of c.args.replica.now.waiting) (posted_at c.args.workers.now ++ pending_at c.args.workers.now)
    c.in_default.ensures

pub returns : goal.returns
returns c =
    c.first_pending.ensures
    ∙ first_behind (connection_of c.args.conn) (posted_at c.args.workers.now) (pending_at c.args.workers.now) c.in_default-first_posted.ensures
    ∙ first_behind (connection_of c.args.conn) (items_of c.args.replica.now.waiting) (posted_at c.args.workers.now ++ pending_at c.args.workers.now)
    c.in_default.ensures
