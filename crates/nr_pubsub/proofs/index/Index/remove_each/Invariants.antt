use Rattle.nr_entry.specs.Jobs.{connection_of}
use Rattle.nr_pubsub.proofs.Leaving.{IsLeaving}
use Rattle.nr_pubsub.proofs.index.Index.remove_each.Given as goal

abbrev pub invariant-loop-name : goal.invariant-loop-name
invariant-loop-name l = IsLeaving l.initial.self l.self l.fn.names.keys l.name-iterator (connection_of l.fn.conn)
