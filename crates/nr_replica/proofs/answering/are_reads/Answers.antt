use Rattle.std.proofs.Common.{◌≡◌, false, ap, sym, ◌∙◌, rules}
use Rattle.nr_model.specs.Items.{is_update}
use Rattle.nr_entry.specs.Jobs.{item_of}
use Rattle.nr_entry.specs.Kinds.{deed_of}
use Rattle.nr_entry.specs.declared.job.Job.{Job}
use Rattle.nr_replica.proofs.Runs.{reads_more}
use Rattle.nr_replica.proofs.answering.are_reads.Goals as goal

pub loop-job-preserved : goal.loop-job-preserved
loop-job-preserved c =
    let read : is_update (deed_of c.job-item.result.kind) ≡ false = search rules in
    reads_more item_of c.loop-job.job-index c.job-item.result c.args.jobs.now c.loop-job-test.true c.loop-job.invariant
    (ap (λ (j : Job). is_update (item_of j).deed) (sym c.job-item.is) ∙ read)
