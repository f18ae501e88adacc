use Rattle.nr_keyspace.specs.Joined.{key_of}
use Rattle.nr_watch.proofs.Marking.{IsMarking}
use Rattle.nr_watch.proofs.watches.mark_each.Given as goal

abbrev pub invariant-loop-conn : goal.invariant-loop-conn
invariant-loop-conn l = IsMarking (key_of l.database l.name) l.conns.keys l.conn-iterator l.fn.by_conn.entries l.by_conn.entries
