use Rattle.std.proofs.Common.{arith}
use Rattle.nr_job_numbers.proofs.Steps.{took_more, not_all}
use Rattle.nr_job_numbers.proofs.taking.take_front.Goals as goal

pub loop-index-preserved : goal.loop-index-preserved
loop-index-preserved c =
    took_more c.args.node c.args.worker c.args.held.now c.loop-index.held c.take_one.new.held c.args.jobs.now c.loop-index.index c.index-jobs-index.result c.take_one.result
    (omega arith) c.index-jobs-index.is c.take_one.ensures.takes c.take_one.ensures.taken c.if-not-take_one.false c.loop-index.invariant

pub returns-then-not-take_one-clause-stopped : goal.returns-then-not-take_one-clause-stopped
returns-then-not-take_one-clause-stopped c = λ _.
    not_all c.args.node c.args.worker c.args.held.now c.loop-index.held c.args.jobs.now c.loop-index.index c.index-jobs-index.result c.take_one.result (omega arith)
    c.index-jobs-index.is c.take_one.ensures.takes c.if-not-take_one.true c.loop-index.invariant
