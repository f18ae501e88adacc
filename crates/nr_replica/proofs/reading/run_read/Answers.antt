use Rattle.std.proofs.Common.{◌≡◌, arith, rules}
use Rattle.std.specs.Prelude.{Some}
use Rattle.nr_entry.specs.Jobs.{item_of}
use Rattle.nr_replica.proofs.Looked.{read_open, read_closed, read_past, read_elsewhere}
use Rattle.nr_replica.proofs.Waiting.{open_ready, put_ready, same_queues_ready}
use Rattle.nr_replica.proofs.reading.run_read.Goals as goal

pub answer-requires-clause-ready : goal.answer-requires-clause-ready
answer-requires-clause-ready c =
    open_ready c.args.node c.args.job.now.conn.serial c.in-Some.worker c.args.members.now.workers.items c.args.members.now.outboxes.entries c.args.members.now.ready.sets.items
    c.in-Some-get_mut.outbox.now c.in-Some.ensures.there.0 c.in-Some.ensures.there.1 c.in-Some-get_mut.ensures.value c.requires.ready

pub returns-in-Some-get_mut-clause-delivered : goal.returns-in-Some-get_mut-clause-delivered
returns-in-Some-get_mut-clause-delivered c =
    let changes = (c.get_mut.follows.holds c.answer.new.outbox).3 (search rules) in
    read_open c.args.node c.args.machine.now.state (item_of c.args.job.now) c.args.members.now.workers.items c.args.members.now.outboxes.entries
    (c.get_mut.follows.lender c.answer.new.outbox).entries c.in-Some-get_mut.outbox.now c.answer.new.outbox c.requires.numbered c.requires.read (omega arith)
    c.in-Some-get_mut.ensures.value changes.0 c.answer.ensures.received

pub returns-in-Some-get_mut-clause-ready : goal.returns-in-Some-get_mut-clause-ready
returns-in-Some-get_mut-clause-ready c =
    let changes = (c.get_mut.follows.holds c.answer.new.outbox).3 (search rules) in
    put_ready c.args.node c.args.job.now.conn.serial c.in-Some.worker c.args.members.now.workers.items (Some c.answer.new.outbox) c.args.members.now.outboxes.entries
    (c.get_mut.follows.lender c.answer.new.outbox).entries c.args.members.now.ready.sets.items c.answer.new.ready.sets.items c.in-Some.ensures.there.0
    c.in-Some.ensures.there.1 changes.0 c.answer.ensures.marked c.requires.ready

pub returns-in_default-get_mut-clause-delivered : goal.returns-in_default-get_mut-clause-delivered
returns-in_default-get_mut-clause-delivered c =
    let same : c.get_mut.follows.lender-at-none.entries ≡ c.args.members.now.outboxes.entries = search rules in
    read_closed c.args.node c.args.machine.now.state (item_of c.args.job.now) c.args.members.now.workers.items c.args.members.now.outboxes.entries
    c.get_mut.follows.lender-at-none.entries c.requires.numbered c.requires.read (omega arith) (search (rules, c.in_default-get_mut.ensures)) same

pub returns-in_default-get_mut-clause-ready : goal.returns-in_default-get_mut-clause-ready
returns-in_default-get_mut-clause-ready c =
    let same : c.get_mut.follows.lender-at-none.entries ≡ c.args.members.now.outboxes.entries = search rules in
    same_queues_ready c.args.node c.args.members.now.workers.items c.args.members.now.outboxes.entries c.get_mut.follows.lender-at-none.entries
    c.args.members.now.ready.sets.items same c.requires.ready

pub returns-in_default-clause-delivered : goal.returns-in_default-clause-delivered
returns-in_default-clause-delivered c =
    read_past c.args.node c.args.machine.now.state (item_of c.args.job.now) c.args.members.now.workers.items c.args.members.now.outboxes.entries c.requires.numbered
    c.requires.read (search (rules, c.in_default.ensures))

pub returns-else-job-node-clause-delivered : goal.returns-else-job-node-clause-delivered
returns-else-job-node-clause-delivered c =
    read_elsewhere c.args.node c.args.machine.now.state (item_of c.args.job.now) c.args.members.now.workers.items c.args.members.now.outboxes.entries c.requires.numbered c.requires.read
    (λ e. absurd (omega arith))
