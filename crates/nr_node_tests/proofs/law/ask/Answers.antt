use Rattle.nr_entry.specs.Jobs.{connection_of}
use Rattle.nr_node_tests.proofs.Serving.{fed_first}
use Rattle.nr_node_tests.proofs.law.ask.Goals as goal

pub returns-clause-asked : goal.returns-clause-asked
returns-clause-asked g c =
    fed_first (connection_of c.args.conn) c.args.sent.now c.new-session.result c.new-jobs.result.items c.feed.new.jobs.items
    c.new-session.ensures c.new-jobs.ensures.items c.in-Ok.ensures.jobs
