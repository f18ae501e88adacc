use Rattle.std.proofs.Common.{refl}
use Rattle.nr_entry.specs.Jobs.{connection_of}
use Rattle.nr_replica.specs.Members.{fresh_member, members_seen}
use Rattle.nr_replica.proofs.Stepped.{opened_is, unopened, unopened_is}
use Rattle.nr_replica.proofs.Waiting.{same_ready, more_ready}
use Rattle.nr_replica.proofs.members.NodeMembers.open.Goals as goal

pub returns-in_err-push-clause-unchanged : goal.returns-in_err-push-clause-unchanged
returns-in_err-push-clause-unchanged c =
    unopened_is c.from_residual-in_err-push.result (connection_of c.args.conn) c.args.self.now.workers.items c.push.new.self.items c.new.result c.args.self.now.outboxes.entries
    c.insert.new.self.entries c.requires.next c.in_err-push.ensures.items c.in_ok-insert.ensures.updates.0

pub returns-clause-opened : goal.returns-clause-opened
returns-clause-opened c =
    opened_is (connection_of c.args.conn) c.args.worker c.args.limit c.args.self.now.workers.items c.push.new.self.items c.new.result c.args.self.now.outboxes.entries
    c.insert.new.self.entries c.requires.next c.in_ok-push.ensures.items c.new.ensures c.in_ok-insert.ensures.updates.0

pub returns-in_err-push-clause-ready : goal.returns-in_err-push-clause-ready
returns-in_err-push-clause-ready c = λ ready.
    same_ready c.args.self.now.ready.sets.items (members_seen c.args.conn.node c.args.self.now) _
    (unopened (connection_of c.args.conn) c.args.self.now.workers.items c.push.new.self.items c.new.result c.args.self.now.outboxes.entries c.insert.new.self.entries c.requires.next
    c.in_err-push.ensures.items c.in_ok-insert.ensures.updates.0)
    ready

pub returns-clause-ready : goal.returns-clause-ready
returns-clause-ready c = λ ready.
    more_ready c.args.self.now.ready.sets.items (members_seen c.args.conn.node c.args.self.now) _ (fresh_member (connection_of c.args.conn) c.args.worker c.args.limit) refl
    (opened_is (connection_of c.args.conn) c.args.worker c.args.limit c.args.self.now.workers.items c.push.new.self.items c.new.result c.args.self.now.outboxes.entries
    c.insert.new.self.entries c.requires.next c.in_ok-push.ensures.items c.new.ensures c.in_ok-insert.ensures.updates.0)
    ready
