use Rattle.std.proofs.Common.{arith}
use Rattle.nr_job_numbers.proofs.Ends.{noted_more}
use Rattle.nr_job_numbers.proofs.taking.note_ends.Goals as goal

pub loop-index-preserved : goal.loop-index-preserved
loop-index-preserved c =
    noted_more c.args.node c.args.worker c.args.held.now c.loop-index.held c.note_one.new.held c.args.jobs.now c.loop-index.index c.index-jobs-index.result
    c.note_one.result (omega arith) c.index-jobs-index.is c.note_one.ensures.known c.note_one.ensures.noted c.if-not-note_one.false c.loop-index.invariant
