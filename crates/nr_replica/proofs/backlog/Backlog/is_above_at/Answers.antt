use Rattle.std.proofs.Common.{arith}
use Rattle.nr_replica.proofs.Held.{backlog_at}
use Rattle.nr_replica.proofs.backlog.Backlog.is_above_at.Goals as goal

pub returns-in-Some : goal.returns-in-Some
returns-in-Some c = λ above.
    backlog_at c.args.serial c.args.opened c.args.queues.now.entries c.in-Some.outbox.now (omega arith) c.in-Some.ensures.value (c.is_above.ensures above)
