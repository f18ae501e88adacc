use Rattle.nr_pubsub.specs.Holdings.{all_held_of}
use Rattle.nr_pubsub.proofs.Held.{IsHeldCopied}
use Rattle.nr_pubsub.proofs.holders.copy_each.Given as goal

abbrev pub invariant-loop-conn : goal.invariant-loop-conn
invariant-loop-conn l = IsHeldCopied (all_held_of l.fn.by_conn.entries) l.copied.entries l.conn-iterator
