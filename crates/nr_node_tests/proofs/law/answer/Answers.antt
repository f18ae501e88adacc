use Rattle.nr_entry.specs.Jobs.{connection_of}
use Rattle.nr_node_tests.proofs.Serving.{answered_by}
use Rattle.nr_node_tests.proofs.law.answer.Goals as goal

pub returns : goal.returns
returns g c =
    answered_by c.desk_law.ensures c.args.worker.now (connection_of c.open_one-mark.result.0) c.args.sent.now c.requires
    c.open_one-mark.new.worker c.post.new.self c.take_first-bytes.new.worker c.ask-jobs.result.items
    c.open_one-mark.result.1.standing c.take_first-bytes.new.mark.standing c.take_first-bytes.result.items
    c.open_one-mark.ensures.heard c.take_first-bytes.ensures.seat c.open_one-mark.ensures.opened c.ask-jobs.ensures.asked
    c.in-Ok.ensures.posted c.take_first-bytes.ensures.got
