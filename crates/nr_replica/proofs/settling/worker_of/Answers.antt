use Rattle.std.proofs.Common.{arith}
use Rattle.nr_entry.specs.Jobs.{connection_of}
use Rattle.nr_replica.specs.Members.{fresh_member}
use Rattle.nr_replica.proofs.Listed.{worker_past}
use Rattle.nr_replica.proofs.settling.worker_of.Goals as goal

pub returns-then-serial-len : goal.returns-then-serial-len
returns-then-serial-len c = λ n. c.worker.ensures n (fresh_member (connection_of c.args.conn) 0 0)

pub returns-else-serial-len : goal.returns-else-serial-len
returns-else-serial-len c = λ n.
    worker_past n c.args.members.now.workers.items c.args.members.now.outboxes.entries c.args.conn.serial (fresh_member (connection_of c.args.conn) 0 0) (omega arith)
