use Rattle.std.proofs.Common.{sym}
use Rattle.nr_replica.specs.Members.{members_seen}
use Rattle.nr_replica.proofs.Owed.{owed_none, owed_next}
use Rattle.nr_replica.proofs.settling.settle.Goals as goal

pub loop-job-init : goal.loop-job-init
loop-job-init c = λ n. sym (owed_none 0 (members_seen n c.args.members.now) c.args.owed.now)

pub loop-job-preserved : goal.loop-job-preserved
loop-job-preserved c = λ n.
    owed_next (members_seen n c.args.members.now) c.args.jobs.now c.loop-job.job-index c.job-item.result c.job-item.result c.args.owed.now c.loop-job.owed c.settle_one.new.owed
    c.loop-job-test.true c.job-item.is (c.loop-job.invariant n) (c.settle_one.ensures n)
