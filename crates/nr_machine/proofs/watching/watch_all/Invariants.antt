use Rattle.std.proofs.Common.{◌≡◌, drop}
use Rattle.nr_entry.specs.Jobs.{connection_of}
use Rattle.nr_machine.proofs.Watched.{Begun}
use Rattle.nr_machine.proofs.watching.watch_all.Given as goal

abbrev pub invariant-loop-name : goal.invariant-loop-name
invariant-loop-name l = record {
  others : l.watches.touched ≡ l.fn.watches.touched;
  begun : Begun l.keyspace l.now (connection_of l.conn) l.database l.names l.fn.watches.watches l.watches.watches (drop l.name-index l.names);
}
