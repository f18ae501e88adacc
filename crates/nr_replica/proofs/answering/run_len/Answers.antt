use Rattle.std.proofs.Common.{ap, sym, ◌∙◌}
use Rattle.nr_entry.specs.Jobs.{connection_of, item_of}
use Rattle.nr_entry.specs.declared.job.Job.{Job}
use Rattle.nr_replica.proofs.Runs.{of_more, same_conn}
use Rattle.nr_replica.proofs.answering.run_len.Goals as goal

pub loop-index-preserved : goal.loop-index-preserved
loop-index-preserved c =
    of_more item_of (connection_of c.args.conn) c.loop-index.index c.index-jobs-index.result c.args.jobs.now c.loop-index-test.true c.loop-index.invariant
    (ap (λ (j : Job). connection_of j.conn) (sym c.index-jobs-index.is) ∙ same_conn c.index-jobs-index.result.conn c.args.conn (sym c.if-ne.false ∙ c.ne.ensures))
