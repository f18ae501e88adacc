use Rattle.std.proofs.Common.{◌∙◌, sym}
use Rattle.std.specs.Prelude.{None}
use Rattle.nr_replica.specs.Members.{nobody}
use Rattle.nr_replica.proofs.Listed.{worker_at}
use Rattle.nr_replica.proofs.Stepped.{closed_is}
use Rattle.nr_replica.proofs.Waiting.{put_ready}
use Rattle.nr_replica.proofs.members.NodeMembers.close.Goals as goal

pub returns-clause-closed : goal.returns-clause-closed
returns-clause-closed c = λ node d.
    closed_is node c.args.serial c.args.self.now.workers.items c.args.self.now.outboxes.entries c.remove.new.self.entries d c.requires c.remove.ensures.updates.0

pub returns-clause-ready : goal.returns-clause-ready
returns-clause-ready c = λ node ready.
    let workers = c.args.self.now.workers.items in
    let queues = c.args.self.now.outboxes.entries in
    put_ready node c.args.serial c.worker-worker.result workers None queues c.remove.new.self.entries c.args.self.now.ready.sets.items c.remove-2.new.self.sets.items c.requires
    (c.worker-worker.ensures node nobody ∙ sym (worker_at node workers queues c.args.serial nobody c.requires)) c.remove.ensures.updates.0 c.remove-2.ensures ready
