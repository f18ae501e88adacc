use Rattle.std.proofs.Common.{ap}
use Rattle.nr_slots.specs.Seats.{WorkerView}
use Rattle.nr_combiner.proofs.Alone.{prepared_last}
use Rattle.nr_combiner.proofs.node.Node.read.Goals as goal

pub read_lifted-requires-clause-last : goal.read_lifted-requires-clause-last
read_lifted-requires-clause-last g c =
    prepared_last c.args.seat.now.lane.posted c.post.new.self.lane.posted c.args.batch c.args.prepared (ap (λ (v : WorkerView). v.lane.posted) c.in_default.ensures.posted)
    c.requires.counted c.requires.number c.requires.ready
