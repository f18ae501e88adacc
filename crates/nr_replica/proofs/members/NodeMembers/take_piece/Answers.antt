use Rattle.std.proofs.Common.{◌≡◌, ◌∙◌, sym, rules}
use Rattle.std.specs.Prelude.{Some}
use Rattle.nr_replica.specs.Members.{nobody}
use Rattle.nr_replica.proofs.Listed.{worker_at}
use Rattle.nr_replica.proofs.Stepped.{piece_of_open, none_of_open, left_of_open, kept_of_open, none_of_closed, left_of_closed}
use Rattle.nr_replica.proofs.Waiting.{open_ready, put_ready}
use Rattle.nr_replica.proofs.members.NodeMembers.take_piece.Goals as goal

pub returns-in-Some-clause-piece : goal.returns-in-Some-clause-piece
returns-in-Some-clause-piece c = λ node d.
    piece_of_open node c.args.serial c.args.most c.args.self.now.workers.items c.args.self.now.outboxes.entries c.in-Some.outbox.now d c.take_piece.result c.requires.is_there
    c.in-Some.ensures.value c.take_piece.ensures.piece

pub returns-in-Some-clause-none : goal.returns-in-Some-clause-none
returns-in-Some-clause-none c = λ node d.
    none_of_open node c.args.serial c.args.self.now.workers.items c.args.self.now.outboxes.entries c.in-Some.outbox.now d c.take_piece.result c.requires.is_there
    c.in-Some.ensures.value c.take_piece.ensures.none

pub returns-in-Some-clause-left : goal.returns-in-Some-clause-left
returns-in-Some-clause-left c = λ node d.
    let changes = (c.get_mut.follows.holds c.take_piece.new.outbox).3 (search rules) in
    left_of_open node c.args.serial c.args.most c.args.self.now.workers.items c.args.self.now.outboxes.entries (c.get_mut.follows.lender c.take_piece.new.outbox).entries
    c.in-Some.outbox.now c.take_piece.new.outbox d c.take_piece.result c.requires.is_there c.in-Some.ensures.value changes.0 c.take_piece.ensures.left

pub returns-in-Some-clause-unchanged : goal.returns-in-Some-clause-unchanged
returns-in-Some-clause-unchanged c = λ node.
    let changes = (c.get_mut.follows.holds c.take_piece.new.outbox).3 (search rules) in
    kept_of_open node c.args.serial c.args.self.now.workers.items c.args.self.now.outboxes.entries (c.get_mut.follows.lender c.take_piece.new.outbox).entries c.in-Some.outbox.now
    c.take_piece.new.outbox c.take_piece.result c.requires.is_there c.in-Some.ensures.value changes.0 c.take_piece.ensures.unchanged

pub returns-in-None-clause-none : goal.returns-in-None-clause-none
returns-in-None-clause-none c = λ node d.
    none_of_closed node c.args.serial c.args.self.now.workers.items c.args.self.now.outboxes.entries d c.requires.is_there c.in-None.ensures.value

pub returns-in-None-clause-left : goal.returns-in-None-clause-left
returns-in-None-clause-left c = λ node d.
    let same : c.get_mut.follows.lender-at-none.entries ≡ c.args.self.now.outboxes.entries = search rules in
    left_of_closed node c.args.serial c.args.most c.args.self.now.workers.items c.args.self.now.outboxes.entries c.get_mut.follows.lender-at-none.entries d c.requires.is_there
    c.in-None.ensures.value same

pub returns-in-Some-clause-ready : goal.returns-in-Some-clause-ready
returns-in-Some-clause-ready c = λ node ready.
    let workers = c.args.self.now.workers.items in
    let queues = c.args.self.now.outboxes.entries in
    let sets = c.args.self.now.ready.sets.items in
    let within = c.requires.is_there in
    let own = c.worker-worker.ensures node nobody ∙ sym (worker_at node workers queues c.args.serial nobody within) in
    let changes = (c.get_mut.follows.holds c.take_piece.new.outbox).3 (search rules) in
    put_ready node c.args.serial c.worker-worker.result workers (Some c.take_piece.new.outbox) queues (c.get_mut.follows.lender c.take_piece.new.outbox).entries sets
    c.take_piece.new.ready.sets.items within own changes.0
    (c.take_piece.ensures.marked (open_ready node c.args.serial c.worker-worker.result workers queues sets c.in-Some.outbox.now within own c.in-Some.ensures.value ready))
    ready
