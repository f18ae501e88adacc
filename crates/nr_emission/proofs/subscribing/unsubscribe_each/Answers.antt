use Rattle.nr_entry.specs.Jobs.{connection_of}
use Rattle.nr_emission.proofs.Acknowledged.{one_cleared, cleared_so_far, fewer_held}
use Rattle.nr_emission.proofs.Sent.{on_err}
use Rattle.nr_emission.proofs.subscribing.unsubscribe_each.Goals as goal

pub returns-in_err-unsubscribe_first-clause-partly : goal.returns-in_err-unsubscribe_first-clause-partly
returns-in_err-unsubscribe_first-clause-partly g c =
    on_err c.from_residual.result _
    (cleared_so_far g.S.Sink.after c.args.node (connection_of c.args.conn) c.args.kind c.args.subs.now c.loop.subs c.args.out.now c.loop.out
    c.unsubscribe_first.new.out c.in_err-unsubscribe_first.ensures.unchanged c.loop.invariant)

pub loop-smaller : goal.loop-smaller
loop-smaller g c =
    fewer_held g.S.Sink.after c.args.node (connection_of c.args.conn) c.args.kind c.loop.subs c.unsubscribe_first.new.subs c.loop.out
    c.unsubscribe_first.new.out
    c.in_ok-unsubscribe_first.field-0 c.in_ok-unsubscribe_first.ensures.given_up c.if-branch.true

pub loop-preserved : goal.loop-preserved
loop-preserved g c =
    one_cleared g.S.Sink.after c.args.node (connection_of c.args.conn) c.args.kind c.args.subs.now c.loop.subs c.unsubscribe_first.new.subs c.args.out.now
    c.loop.out
    c.unsubscribe_first.new.out c.in_ok-unsubscribe_first.field-0 c.in_ok-unsubscribe_first.ensures.given_up c.if-branch.true c.loop.invariant
