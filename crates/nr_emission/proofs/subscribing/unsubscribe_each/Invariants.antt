use Rattle.std.proofs.Common.{length}
use Rattle.nr_model.specs.Names.{held}
use Rattle.nr_model.specs.Servers.{held_in}
use Rattle.nr_entry.specs.Jobs.{connection_of}
use Rattle.nr_emission.proofs.Acknowledged.{Cleared}
use Rattle.nr_emission.proofs.subscribing.unsubscribe_each.Given as goal

abbrev pub invariant-loop : goal.invariant-loop
invariant-loop g l = Cleared g.S.Sink.after l.node (connection_of l.conn) l.kind l.fn.subs l.subs l.fn.out l.out

abbrev pub decreases-loop : goal.decreases-loop
decreases-loop g l = length (held l.kind (held_in l.subs (connection_of l.conn)))
