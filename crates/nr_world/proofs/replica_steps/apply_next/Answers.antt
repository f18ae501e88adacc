use Rattle.std.proofs.Common.{[]}
use Rattle.nr_world.specs.Served.{node_seen, entry_seen}
use Rattle.nr_world.proofs.Kept.{paired_long}
use Rattle.nr_world.proofs.Replayed.{next_is}
use Rattle.nr_world.proofs.replica_steps.apply_next.Goals as goal

pub apply-requires-clause-clients : goal.apply-requires-clause-clients
apply-requires-clause-clients c =
    paired_long c.args.node.now.replica.node 0 c.args.node.now.sessions c.args.node.now.replica.members c.requires.within.whole.pairs

pub returns-clause-next : goal.returns-clause-next
returns-clause-next c = λ all is.
    next_is c.args.node.now.replica.node c.args.log.now all (entry_seen c.entry.result.now) (node_seen c.args.node.now) (node_seen c.apply.new.self)
    c.requires.within.base is (c.entry.ensures (record { node = 0; jobs = [] })) c.apply.ensures.applied
