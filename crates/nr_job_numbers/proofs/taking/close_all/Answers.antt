use Rattle.nr_job_numbers.proofs.Steps.{closed_more}
use Rattle.nr_job_numbers.proofs.taking.close_all.Goals as goal

pub loop-job-preserved : goal.loop-job-preserved
loop-job-preserved c =
    closed_more c.args.node c.args.held.now c.loop-job.held c.close_one.new.held c.args.jobs.now c.loop-job.job-index c.job-item.result c.loop-job-test.true c.job-item.is
    c.close_one.ensures c.loop-job.invariant
