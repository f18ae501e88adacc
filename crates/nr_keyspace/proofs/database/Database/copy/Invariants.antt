use Rattle.nr_keyspace.proofs.Copied.{IsCopied}
use Rattle.nr_keyspace.proofs.database.Database.copy.Given as goal

abbrev pub invariant-loop-name : goal.invariant-loop-name
invariant-loop-name l = IsCopied l.fn.self l.copy l.name-iterator
