use Rattle.std.proofs.Common.{◌≡◌, ap, sym, ◌∙◌}
use Rattle.nr_model.specs.Items.{Connection, is_update}
use Rattle.nr_model.specs.Nodes.Steps.{texts_for}
use Rattle.nr_model.specs.Queues.{received}
use Rattle.nr_model.specs.Servers.{emitted_in}
use Rattle.nr_entry.specs.Jobs.{connection_of, item_of}
use Rattle.nr_entry.specs.declared.job.Job.{Job}
use Rattle.nr_replica.proofs.Looked.{read_at}
use Rattle.nr_replica.proofs.Runs.{answered_next, of_at}
use Rattle.nr_replica.proofs.answering.answer_each.Goals as goal

pub reply-requires : goal.reply-requires
reply-requires c =
    ap (λ (j : Job). is_update (item_of j).deed) c.job-item.is
    ∙ read_at c.args.jobs.now c.loop-job.job-index c.job-item.result c.requires.reads c.loop-job-test.true

pub loop-job-preserved : goal.loop-job-preserved
loop-job-preserved c =
    let s = c.args.machine.now.state in
    let to = c.args.outbox.now.connection in
    let i = c.loop-job.job-index in
    let job = c.job-item.result in
    let mid = c.loop-job.outbox in
    let n = c.reply.ensures.0 in
    let own : connection_of job.conn ≡ to =
    ap (λ (j : Job). connection_of j.conn) c.job-item.is ∙ of_at item_of to i job c.args.jobs.now c.requires.own c.loop-job-test.true in
    let uncut = sym c.is_cut.ensures ∙ c.if-is_cut.false in (
      answered_next item_of s to i job c.args.jobs.now c.args.outbox.now mid c.reply.new.outbox n c.requires.reads c.loop-job-test.true c.loop-job.invariant.0
          (c.reply.ensures.1 ∙ ap (λ (k : Connection). received n mid (texts_for k (emitted_in s (item_of job)))) own
          ∙ ap (λ (j : Job). received n mid (texts_for to (emitted_in s (item_of j)))) c.job-item.is)
          uncut,
      uncut,
    )
