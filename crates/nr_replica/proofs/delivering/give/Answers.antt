use Rattle.std.proofs.Common.{◌≡◌, arith, rules}
use Rattle.std.specs.Prelude.{Some}
use Rattle.nr_entry.specs.Jobs.{connection_of}
use Rattle.nr_replica.proofs.Giving.{given_open, given_closed, given_elsewhere, given_past}
use Rattle.nr_replica.proofs.Waiting.{open_ready, put_ready, same_queues_ready}
use Rattle.nr_replica.proofs.delivering.give.Goals as goal

pub put-requires : goal.put-requires
put-requires c =
    open_ready c.args.node c.args.conn.serial c.in-Some.worker c.args.members.now.workers.items c.args.members.now.outboxes.entries c.args.members.now.ready.sets.items
    c.in-Some-get_mut.outbox.now c.in-Some.ensures.there.0 c.in-Some.ensures.there.1 c.in-Some-get_mut.ensures.value c.requires.ready

pub returns-in-Some-get_mut-clause-given : goal.returns-in-Some-get_mut-clause-given
returns-in-Some-get_mut-clause-given c =
    let changes = (c.get_mut.follows.holds c.put.new.outbox).3 (search rules) in
    given_open c.args.node (connection_of c.args.conn) c.args.bytes.now c.args.members.now.workers.items c.args.members.now.outboxes.entries
    (c.get_mut.follows.lender c.put.new.outbox).entries c.in-Some-get_mut.outbox.now c.put.new.outbox c.requires.numbered (omega arith) c.in-Some-get_mut.ensures.value changes.0
    c.put.ensures.received

pub returns-in-Some-get_mut-clause-ready : goal.returns-in-Some-get_mut-clause-ready
returns-in-Some-get_mut-clause-ready c =
    let changes = (c.get_mut.follows.holds c.put.new.outbox).3 (search rules) in
    put_ready c.args.node c.args.conn.serial c.in-Some.worker c.args.members.now.workers.items (Some c.put.new.outbox) c.args.members.now.outboxes.entries
    (c.get_mut.follows.lender c.put.new.outbox).entries c.args.members.now.ready.sets.items c.put.new.ready.sets.items c.in-Some.ensures.there.0 c.in-Some.ensures.there.1
    changes.0 c.put.ensures.marked c.requires.ready

pub returns-in_default-get_mut-clause-given : goal.returns-in_default-get_mut-clause-given
returns-in_default-get_mut-clause-given c =
    let same : c.get_mut.follows.lender-at-none.entries ≡ c.args.members.now.outboxes.entries = search rules in
    given_closed c.args.node (connection_of c.args.conn) c.args.bytes.now c.args.members.now.workers.items c.args.members.now.outboxes.entries
    c.get_mut.follows.lender-at-none.entries c.requires.numbered (omega arith) (search (rules, c.in_default-get_mut.ensures)) same

pub returns-in_default-get_mut-clause-ready : goal.returns-in_default-get_mut-clause-ready
returns-in_default-get_mut-clause-ready c =
    let same : c.get_mut.follows.lender-at-none.entries ≡ c.args.members.now.outboxes.entries = search rules in
    same_queues_ready c.args.node c.args.members.now.workers.items c.args.members.now.outboxes.entries c.get_mut.follows.lender-at-none.entries
    c.args.members.now.ready.sets.items same c.requires.ready

pub returns-in_default-clause-given : goal.returns-in_default-clause-given
returns-in_default-clause-given c =
    given_past c.args.node (connection_of c.args.conn) c.args.bytes.now c.args.members.now.workers.items c.args.members.now.outboxes.entries c.requires.numbered
    (search (rules, c.in_default.ensures))

pub returns-else-conn-node-clause-given : goal.returns-else-conn-node-clause-given
returns-else-conn-node-clause-given c =
    given_elsewhere c.args.node (connection_of c.args.conn) c.args.bytes.now c.args.members.now.workers.items c.args.members.now.outboxes.entries c.requires.numbered
    (λ e. absurd (omega arith))
