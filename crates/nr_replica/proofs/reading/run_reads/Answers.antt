use Rattle.std.proofs.Common.{ap, ◌∙◌}
use Rattle.nr_model.specs.Items.{is_update}
use Rattle.nr_model.specs.Servers.{emitted_in}
use Rattle.nr_model.specs.Nodes.Steps.{texts_for}
use Rattle.nr_entry.specs.Jobs.{item_of}
use Rattle.nr_entry.specs.declared.job.Job.{Job}
use Rattle.nr_replica.specs.Members.{members_seen}
use Rattle.nr_replica.proofs.Received.{received_numbered, nothing_received}
use Rattle.nr_replica.proofs.Looked.{read_at, reads_next}
use Rattle.nr_replica.proofs.reading.run_reads.Goals as goal

pub loop-job-init : goal.loop-job-init
loop-job-init c = (c.requires.numbered, c.requires.ready, nothing_received (members_seen c.args.node c.args.members.now))

pub run_read-requires-clause-read : goal.run_read-requires-clause-read
run_read-requires-clause-read c =
    ap (λ (j : Job). is_update (item_of j).deed) c.job-item.is
    ∙ read_at c.args.reads.now c.loop-job.job-index c.job-item.result c.requires.reads c.loop-job-test.true

pub loop-job-preserved : goal.loop-job-preserved
loop-job-preserved c =
    let state = c.args.machine.now.state in
    let job = c.job-item.result in
    let olds = members_seen c.args.node c.args.members.now in
    let mids = members_seen c.args.node c.loop-job.members in
    let news = members_seen c.args.node c.run_read.new.members in (
      received_numbered c.args.node 0 (λ k. texts_for k (emitted_in state (item_of job))) mids news c.loop-job.invariant.0 c.run_read.ensures.delivered,
      c.run_read.ensures.ready,
      reads_next state c.args.reads.now c.loop-job.job-index job job olds mids news c.requires.reads c.loop-job-test.true c.job-item.is c.loop-job.invariant.2 c.run_read.ensures.delivered,
    )
