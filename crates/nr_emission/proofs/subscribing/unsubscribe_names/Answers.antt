use Rattle.std.proofs.Common.{drop, arith}
use Rattle.nr_model.specs.Names.{unsubscribed}
use Rattle.nr_model.specs.Sequential.Messages as messages
use Rattle.nr_entry.specs.Jobs.{connection_of}
use Rattle.nr_emission.proofs.Acknowledged.{one_further, so_far}
use Rattle.nr_emission.proofs.Sent.{cut, on_err}
use Rattle.nr_emission.proofs.subscribing.unsubscribe_names.Goals as goal

pub returns-in_err-unsubscribe_next-clause-partly : goal.returns-in_err-unsubscribe_next-clause-partly
returns-in_err-unsubscribe_next-clause-partly g c =
    on_err c.from_residual.result _
    (so_far g.S.Sink.after c.args.node (connection_of c.args.conn) (unsubscribed c.args.kind) (messages.unsubscribe_verb c.args.kind) c.args.subs.now
    c.loop-name.subs c.args.out.now
    c.loop-name.out c.unsubscribe_next.new.out c.args.names.now (drop c.loop-name.name-index c.args.names.now) c.in_err-unsubscribe_next.ensures.unchanged
    c.loop-name.invariant)

pub loop-name-preserved : goal.loop-name-preserved
loop-name-preserved g c =
    one_further g.S.Sink.after c.args.node (connection_of c.args.conn) (unsubscribed c.args.kind) (messages.unsubscribe_verb c.args.kind) c.args.subs.now
    c.loop-name.subs c.unsubscribe_next.new.subs
    c.args.out.now c.loop-name.out c.unsubscribe_next.new.out c.args.names.now c.name-item.result (drop c.loop-name.name-index c.args.names.now) _
    (cut c.args.names.now c.loop-name.name-index c.name-item.result (omega arith) c.name-item.is) c.in_ok-unsubscribe_next.ensures.subs
    c.in_ok-unsubscribe_next.ensures.emitted c.loop-name.invariant
