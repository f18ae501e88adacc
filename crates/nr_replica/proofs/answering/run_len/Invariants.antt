use Rattle.std.proofs.Common.{take}
use Rattle.nr_entry.specs.Jobs.{connection_of, items_of}
use Rattle.nr_replica.proofs.Runs.{AreOf}
use Rattle.nr_replica.proofs.answering.run_len.Given as goal

-- those before the index are of the connection
abbrev pub invariant-loop-index : goal.invariant-loop-index
invariant-loop-index l = AreOf (connection_of l.conn) (items_of (take l.index l.jobs))
