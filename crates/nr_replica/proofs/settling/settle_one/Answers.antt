use Rattle.std.proofs.Common.{ap, sym, ◌∙◌, set, arith, ℕ}
use Rattle.std.specs.Prelude.{None, Option}
use Rattle.nr_entry.specs.Jobs.{item_of}
use Rattle.nr_replica.specs.Members.{members_seen}
use Rattle.nr_replica.proofs.Owed.{owed_one, owed_past}
use Rattle.nr_replica.proofs.settling.settle_one.Goals as goal

pub returns-then-worker-owed : goal.returns-then-worker-owed
returns-then-worker-owed c = λ n.
    let worker = c.worker_of-worker.result in
    let is = c.worker_of-worker.ensures n in
    ap (λ (o : Option ℕ). set c.args.owed.now worker o) c.one_less.ensures
    ∙ sym (owed_one 0 worker (members_seen n c.args.members.now) (item_of c.args.job.now) None c.args.owed.now (sym is ∙ (omega arith)) c.if-worker-owed.true)

pub returns-else-worker-owed : goal.returns-else-worker-owed
returns-else-worker-owed c = λ n.
    let is = c.worker_of-worker.ensures n in
    sym (owed_past (members_seen n c.args.members.now) (item_of c.args.job.now) c.args.owed.now (omega (arith, is)))
