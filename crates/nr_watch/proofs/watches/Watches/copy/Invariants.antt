use Rattle.nr_watch.specs.Kept.{IsIndexed}
use Rattle.nr_watch.proofs.Copying.{IsCopied}
use Rattle.nr_watch.proofs.watches.Watches.copy.Given as goal

abbrev pub invariant-loop-conn : goal.invariant-loop-conn
invariant-loop-conn l = record {
  copied : IsCopied l.self-inside.by_conn.entries l.by_conn.entries l.conn-iterator;
  indexed : IsIndexed l.by_conn.entries l.by_name.conns.entries;
}
