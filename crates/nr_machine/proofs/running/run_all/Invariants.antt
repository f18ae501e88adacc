use Rattle.std.proofs.Common.{drop, map}
use Rattle.nr_resp.specs.Seen.{reply_of}
use Rattle.nr_emission.specs.Messages.{subscriptions_of}
use Rattle.nr_machine.proofs.Transactions.{Along}
use Rattle.nr_machine.proofs.running.run_all.Given as goal

abbrev pub invariant-loop-cmd : goal.invariant-loop-cmd
invariant-loop-cmd g l = Along g.S.Sink.after l.node l.answered (subscriptions_of l.subs) l.now l.fn.commands l.fn.keyspace l.fn.database l.fn.watches l.fn.out
    (drop l.cmd-index l.commands) l.keyspace l.database l.watches l.out (map reply_of l.replies.items)
