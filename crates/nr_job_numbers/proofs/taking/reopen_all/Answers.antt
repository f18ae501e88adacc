use Rattle.nr_entry.specs.Jobs.{items_of}
use Rattle.nr_job_numbers.specs.Stored.{reopened_all}
use Rattle.nr_job_numbers.proofs.Ends.{reopened_more}
use Rattle.nr_job_numbers.proofs.taking.reopen_all.Goals as goal

pub loop-index-preserved : goal.loop-index-preserved
loop-index-preserved c =
    reopened_more c.loop-index.held c.reopen_one.new.held (reopened_all c.args.held.now (items_of c.args.jobs.now)) c.args.jobs.now
    c.loop-index.index c.index-jobs-index.result c.loop-index-test.true c.loop-index.auto.index c.index-jobs-index.is c.reopen_one.ensures
    c.loop-index.invariant
