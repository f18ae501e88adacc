use Rattle.nr_machine.proofs.DatabasesKept.{AreCopied}
use Rattle.nr_machine.proofs.databases.SelectedDatabases.copy.Given as goal

abbrev pub invariant-loop-conn : goal.invariant-loop-conn
invariant-loop-conn l = AreCopied l.fn.self l.copied l.conn-iterator
