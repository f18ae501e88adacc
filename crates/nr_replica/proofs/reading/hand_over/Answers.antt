use Rattle.std.proofs.Common.{sym, ◌∙◌, arith, rules}
use Rattle.std.specs.Prelude.{Some}
use Rattle.nr_entry.specs.Jobs.{connection_of}
use Rattle.nr_replica.proofs.Runs.{run_taken, same_of_open, not_false, on_true, on_false}
use Rattle.nr_replica.proofs.Waiting.{open_ready, put_ready}
use Rattle.nr_replica.proofs.reading.hand_over.Goals as goal

pub join-is_taken-requires : goal.join-is_taken-requires
join-is_taken-requires c =
    open_ready c.args.node c.conn-conn.result.serial c.in-Some.worker c.args.members.now.workers.items c.args.members.now.outboxes.entries c.args.members.now.ready.sets.items
    c.in-Some-get_mut.outbox.now c.in-Some.ensures.there.0 c.in-Some.ensures.there.1 c.in-Some-get_mut.ensures.value c.requires.ready

pub returns-clause-delivered : goal.returns-clause-delivered
returns-clause-delivered c = λ s own run.
    let queue = c.join-is_taken.new.outbox in
    let changes = (c.get_mut.follows.holds queue).3 (search rules) in
    on_true c.join-is_taken.result
    (run_taken c.args.node s own c.args.run c.into_outbox-other.result (connection_of c.conn-conn.result) c.args.members.now.workers.items c.args.members.now.outboxes.entries
    (c.get_mut.follows.lender queue).entries c.in-Some-get_mut.outbox.now queue c.into_outbox-other.ensures c.conn-conn.ensures c.requires.numbered run
    (not_false _ (sym c.if-is_empty.false ∙ c.is_empty.ensures)) (omega arith) c.in-Some.ensures.there.0 c.in-Some-get_mut.ensures.value changes.0)
    c.join-is_taken.ensures.taken

pub returns-clause-same : goal.returns-clause-same
returns-clause-same c =
    let queue = c.join-is_taken.new.outbox in
    let changes = (c.get_mut.follows.holds queue).3 (search rules) in
    on_false c.join-is_taken.result
    (same_of_open c.args.node c.conn-conn.result.serial c.args.members.now.workers.items c.args.members.now.outboxes.entries (c.get_mut.follows.lender queue).entries
    c.in-Some-get_mut.outbox.now queue c.in-Some.ensures.there.0 c.in-Some-get_mut.ensures.value changes.0)
    c.join-is_taken.ensures.same

pub returns-clause-ready : goal.returns-clause-ready
returns-clause-ready c =
    let queue = c.join-is_taken.new.outbox in
    let changes = (c.get_mut.follows.holds queue).3 (search rules) in
    put_ready c.args.node c.conn-conn.result.serial c.in-Some.worker c.args.members.now.workers.items (Some queue) c.args.members.now.outboxes.entries
    (c.get_mut.follows.lender queue).entries c.args.members.now.ready.sets.items c.join-is_taken.new.ready.sets.items c.in-Some.ensures.there.0 c.in-Some.ensures.there.1
    changes.0 c.join-is_taken.ensures.marked c.requires.ready
