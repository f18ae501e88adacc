use Rattle.nr_world.specs.Workers.{slot_seen}
use Rattle.nr_world.proofs.Posting.{posted}
use Rattle.nr_world.proofs.worker.WorldWorker.post.Goals as goal

pub returns : goal.returns
returns c = λ owed.
    posted c.args.self.now.pending.items c.in_ok-batch.batch.items c.take_front.new.jobs.items c.args.self.now.batches (slot_seen c.args.self.now.slot owed)
    c.in_ok-batch.ensures.front c.in_ok-batch.ensures.behind
