use Rattle.std.proofs.Common.{drop}
use Rattle.nr_model.specs.Names.{unsubscribed}
use Rattle.nr_model.specs.Sequential.Messages as messages
use Rattle.nr_entry.specs.Jobs.{connection_of}
use Rattle.nr_emission.proofs.Acknowledged.{Acknowledged}
use Rattle.nr_emission.proofs.subscribing.unsubscribe_names.Given as goal

abbrev pub invariant-loop-name : goal.invariant-loop-name
invariant-loop-name g l =
    Acknowledged g.S.Sink.after l.node (connection_of l.conn) (unsubscribed l.kind) (messages.unsubscribe_verb l.kind) l.fn.subs l.subs l.fn.out l.out
    l.names (drop l.name-index l.names)
